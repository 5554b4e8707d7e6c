use Rattle.std.proofs.Common.{◌≡◌, ◌∙◌, ap, sym, subst}
use Rattle.std.specs.Option.{option_copied}
use Rattle.st_content.specs.Files.{AreNamed, file_at}
use Rattle.st_content.proofs.FileLemmas.{found, named_found, no_uri}
use Rattle.st_content.proofs.content.Content.get.Goals as goal

pub returns-in-Some-clause-value : goal.returns-in-Some-clause-value
returns-in-Some-clause-value c =
    c.get.ensures.value ∙ found c.args.uri.now c.in-Some.digest _ (sym c.sha256_digest.ensures ∙ c.in-Some.is) ∙ ap (file_at c.args.uri.now) c.self.view_is

pub returns-in-Some-clause-uri : goal.returns-in-Some-clause-uri
returns-in-Some-clause-uri c =
    let value : option_copied c.get.result ≡ file_at c.args.uri.now c.args.self.now =
    c.get.ensures.value ∙ found c.args.uri.now c.in-Some.digest _ (sym c.sha256_digest.ensures ∙ c.in-Some.is) ∙ ap (file_at c.args.uri.now) c.self.view_is in
    named_found c.get.result c.args.uri.now c.args.self.now (subst AreNamed c.self.view_is c.self.invariant) value

pub returns-in-None-clause-value : goal.returns-in-None-clause-value
returns-in-None-clause-value c =
    sym (ap (file_at c.args.uri.now) (sym c.self.view_is) ∙ no_uri c.args.uri.now c.self.inside.files.entries (sym c.sha256_digest.ensures ∙ c.in-None.is))
