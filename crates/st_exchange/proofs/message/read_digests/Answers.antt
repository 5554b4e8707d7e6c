use Rattle.std.proofs.Common.{◌≡◌, ◌∙◌, ℕ, suc, ◌+◌, ◌-◌, List, [], ◌∷◌, ◌++◌, ap, arith}
use Rattle.st_exchange.proofs.MessageLemmas.{uris_of-next}
use Rattle.st_exchange.specs.Message.{uris_of}
use Rattle.st_hash.specs.Hash.{HashValue}
use Rattle.st_exchange.proofs.message.read_digests.Goals as goal

pub loop-i-preserved : goal.loop-i-preserved
loop-i-preserved c =
    let left = c.args.count - (c.loop-i.i + 1) in
    let one_less : suc left ≡ c.args.count - c.loop-i.i = omega arith in record {
      all =
          uris_of-next c.loop-i.uris _ left c.loop-i.rest.now _ c.split_at.ensures.back
          (c.in_ok-push.ensures.ok ∙ ap (λ (uri : HashValue). c.loop-i.uris ++ uri ∷ []) (c.uri_with.ensures
          ∙ ap (λ (digest : List ℕ). record { code = 0x12; digest = digest }) c.split_at.ensures.front))
          ∙ ap (λ n. c.loop-i.uris ++ uris_of n c.loop-i.rest.now) one_less ∙ c.loop-i.invariant.all;
      long = omega (arith, c.split_at.ensures.back_len, c.loop-i.invariant.long);
    }
