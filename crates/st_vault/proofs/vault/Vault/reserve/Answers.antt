use Rattle.std.proofs.Common.{◌∙◌, ◌+◌, ◌<◌, Ok, is_some, ap, sym, subst, arith}
use Rattle.st_io.specs.Past.{Follow}
use Rattle.st_io.specs.Histories.{Torn}
use Rattle.st_vault.proofs.FormatLemmas.{torn_moments}
use Rattle.st_vault.proofs.RunLemmas.{after_write, fits, unspent, written}
use Rattle.st_vault.specs.Image.{IsSpent, count_of}
use Rattle.st_vault.proofs.vault.Vault.reserve.Goals as goal

pub write_synced-requires : goal.write_synced-requires
write_synced-requires g c old told =
    let left : c.args.self.next < count_of c.args.self.key = omega (arith, c.if-left-eq0.false, c.left.ensures.value) in
    omega (arith, fits c.args.self old (c.requires old told) left, c.from-place.ensures, c.next.ensures)

pub returns-in-Err-clause-may_spend : goal.returns-in-Err-clause-may_spend
returns-in-Err-clause-may_spend g c =
    let left : c.args.self.next < count_of c.args.self.key = omega (arith, c.if-left-eq0.false, c.left.ensures.value) in
    let here = c.from-place.ensures ∙ c.next.ensures in
    record {
      untouched = λ none. absurd (omega (arith, none, left));
      moments = λ all. torn_moments c.args.self _ _ left all c.write_synced.ensures.time
          (subst (λ n. Follow (Torn (64 + n) 1) (g.D.Disk.past c.args.disk.now) (g.D.Disk.past c.write_synced.new.disk)) here c.write_synced.ensures.images);
      stays = λ old told. after_write c.args.self old (c.requires old told) _ _ _ here (g.met.D.Disk.is_image c.args.disk.now old told) c.write_synced.ensures.time c.write_synced.ensures.images;
    }

pub returns-in-Ok-clause-may_spend : goal.returns-in-Ok-clause-may_spend
returns-in-Ok-clause-may_spend g c =
    let left : c.args.self.next < count_of c.args.self.key = omega (arith, c.if-left-eq0.false, c.left.ensures.value) in
    let here = c.from-place.ensures ∙ c.next.ensures in
    record {
      untouched = λ none. absurd (omega (arith, none, left));
      moments = λ all. torn_moments c.args.self _ _ left all c.write_synced.ensures.time
          (subst (λ n. Follow (Torn (64 + n) 1) (g.D.Disk.past c.args.disk.now) (g.D.Disk.past c.write_synced.new.disk)) here c.write_synced.ensures.images);
      stays = λ old told. after_write c.args.self old (c.requires old told) _ _ _ here (g.met.D.Disk.is_image c.args.disk.now old told) c.write_synced.ensures.time c.write_synced.ensures.images;
    }

pub returns-in-Ok-clause-has_spent : goal.returns-in-Ok-clause-has_spent
returns-in-Ok-clause-has_spent g c =
    let left : c.args.self.next < count_of c.args.self.key = omega (arith, c.if-left-eq0.false, c.left.ensures.value) in
    let here = c.from-place.ensures ∙ c.next.ensures in
    let done = c.in-Ok.ensures in
    record {
      unspent = λ old told. unspent c.args.self old (c.requires old told);
      reads = λ image told.
          let from = done.written.back image told in
          (written c.args.self from.0 (c.requires from.0 from.1) _ image here left from.2).0 ∙ ap Ok (sym c.spend.ensures.0);
      told = λ old told. ap is_some (done.written.forward old told).1;
      durable = done.durable;
      spent = λ old told x image.
          let to = done.written.forward old told in
          subst (λ l. IsSpent l c.args.self.next) (sym (done.durable to.0 to.1 x image))
          (written c.args.self old (c.requires old told) _ to.0 here left to.2).1;
    }

pub returns-in-Err-clause-images : goal.returns-in-Err-clause-images
returns-in-Err-clause-images g c left =
    subst (λ n. Follow (Torn (64 + n) 1) (g.D.Disk.past c.args.disk.now) (g.D.Disk.past c.write_synced.new.disk)) (c.from-place.ensures ∙ c.next.ensures) c.write_synced.ensures.images
