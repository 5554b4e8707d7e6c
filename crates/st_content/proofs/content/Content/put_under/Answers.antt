use Rattle.std.proofs.Common.{◌≡◌, ◌∙◌, ap, sym, subst, IsSome}
use Rattle.st_content.specs.Files.{AreNamed, file_at, files_of, with_file}
use Rattle.st_content.specs.inside.Files.{with_entry}
use Rattle.st_content.proofs.FileLemmas.{AreNamed-with_file, IsPut, after, before, is_put}
use Rattle.st_content.proofs.content.Content.put_under.Goals as goal

pub invariant_of-self-2 : goal.invariant_of-self-2
invariant_of-self-2 c =
    let is : IsPut c.in-Some.digest c.args.bytes c.self.inside.files.entries c.args.self.now =
    is_put c.args.uri _ _ _ _ c.requires (sym c.sha256_digest.ensures ∙ c.in-Some.is) c.self.view_is in
    let new : files_of c.put_first.new.files.entries ≡ with_file c.args.bytes c.args.self.now =
    ap files_of (c.in_ok-put.ensures.ok ∙ ap (λ file. with_entry c.in-Some.digest file c.self.inside.files.entries) c.in_ok-file.ensures) ∙ after _ _ _ _ is in
    let named : AreNamed c.args.self.now = subst AreNamed c.self.view_is c.self.invariant in
    subst AreNamed (sym new) (AreNamed-with_file c.args.bytes c.args.self.now named)

pub returns-clause-had : goal.returns-clause-had
returns-clause-had c =
    let is : IsPut c.in-Some.digest c.args.bytes c.self.inside.files.entries c.args.self.now =
    is_put c.args.uri _ _ _ _ c.requires (sym c.sha256_digest.ensures ∙ c.in-Some.is) c.self.view_is in
    let same = before _ _ _ _ is ∙ ap (λ uri. file_at uri c.args.self.now) (sym c.requires) in
    (λ had. subst IsSome same (c.in_ok-put.ensures.had.0 had), λ there. c.in_ok-put.ensures.had.1 (subst IsSome (sym same) there))

pub returns-clause-ok : goal.returns-clause-ok
returns-clause-ok c =
    let is : IsPut c.in-Some.digest c.args.bytes c.self.inside.files.entries c.args.self.now =
    is_put c.args.uri _ _ _ _ c.requires (sym c.sha256_digest.ensures ∙ c.in-Some.is) c.self.view_is in
    ap files_of (c.in_ok-put.ensures.ok ∙ ap (λ file. with_entry c.in-Some.digest file c.self.inside.files.entries) c.in_ok-file.ensures) ∙ after _ _ _ _ is
