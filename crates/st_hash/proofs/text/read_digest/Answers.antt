use Rattle.std.proofs.Common.{◌≡◌, ◌∙◌, ◌+◌, List, Some, sym, ap, arith, length, drop}
use Rattle.std.proofs.lemmas.List.{length-drop, take_all}
use Rattle.st_hash.specs.Hash.{HashValue}
use Rattle.st_hash.proofs.Base64Lemmas.{fixed_of_text-length}
use Rattle.st_hash.proofs.HashLemmas.{read-none, read-some, hash_of_multihash-code, hash_of_multihash-size, hash_of_multihash-some}
use Rattle.st_hash.proofs.text.read_digest.Goals as goal

pub returns-in-None : goal.returns-in-None
returns-in-None g c =
    sym (read-none c.args.code g.row.MULTIHASH g.row.DIGEST c.args.text.now c.requires.multihash c.requires.digest (sym c.read_fixed.ensures.value ∙ c.in-None.is))

pub returns-then-bytes-code : goal.returns-then-bytes-code
returns-then-bytes-code g c =
    let read = read-some c.args.code g.row.MULTIHASH g.row.DIGEST c.args.text.now c.in-Some.bytes c.requires.multihash c.requires.digest (sym c.read_fixed.ensures.value ∙ c.in-Some.is) in
    sym (read ∙ hash_of_multihash-code c.args.code c.in-Some.bytes c.if-bytes-code.true)

pub returns-then-bytes : goal.returns-then-bytes
returns-then-bytes g c =
    let read = read-some c.args.code g.row.MULTIHASH g.row.DIGEST c.args.text.now c.in-Some.bytes c.requires.multihash c.requires.digest (sym c.read_fixed.ensures.value ∙ c.in-Some.is) in
    sym (read ∙ hash_of_multihash-size c.args.code c.in-Some.bytes (λ same. c.if-bytes.true (same ∙ sym c.requires.digest)))

pub returns : goal.returns
returns g c =
    let bytes = c.in-Some.bytes in
    let found = sym c.read_fixed.ensures.value ∙ c.in-Some.is in
    let read = read-some c.args.code g.row.MULTIHASH g.row.DIGEST c.args.text.now bytes c.requires.multihash c.requires.digest found in
    let long : length bytes ≡ 2 + g.row.DIGEST = fixed_of_text-length g.row.MULTIHASH c.args.text.now bytes found ∙ c.requires.multihash in
    let copied : c.copy_from_slice.new.self ≡ drop 2 bytes =
    c.copy_from_slice.ensures.after ∙ take_all _ _ (omega (arith, length-drop 2 c.as_slice-whole.result.now)) ∙ ap (drop 2) c.as_slice-whole.ensures in
    let with_digest : List _ → HashValue = λ digest. record { code = c.args.code; digest = digest } in
    ap Some (ap with_digest copied)
    ∙ sym (read ∙ hash_of_multihash-some c.args.code bytes c.if-bytes-code.false (c.if-bytes.false ∙ c.requires.digest) (long ∙ ap (λ d. 2 + d) c.requires.digest))
