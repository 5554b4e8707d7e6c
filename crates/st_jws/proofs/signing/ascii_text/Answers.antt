use Rattle.std.proofs.Common.{◌≡◌}
use Rattle.std.specs.Str.{IsUtf8, IsValidUpTo, valid_up_to}
use Rattle.std.proofs.lemmas.Str.{IsUtf8-from_ascii}
use Rattle.st_jws.proofs.SignedLemmas.{decodes}
use Rattle.st_jws.proofs.signing.ascii_text.Goals as goal

pub unwrap-requires : goal.unwrap-requires
unwrap-requires c =
    let bytes = c.args.bytes.now in
    decodes c.from_utf8.result (λ s. (s.now ≡ bytes) × IsUtf8 bytes) (λ e. IsValidUpTo bytes (valid_up_to e)) (IsUtf8 bytes)
    c.from_utf8.ensures.cases (IsUtf8-from_ascii bytes c.requires)
