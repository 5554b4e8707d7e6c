-- A signature, split into its parts (RFC 8554, section 6.2).
use Rattle.std.specs.Prelude.{◌≡◌, ℕ, List, Some}
use Rattle.st_lms.specs.Signature.{public_in, IsSignature}
use Rattle.st_lms.specs.Tree.{PublicKey}
use Rattle.st_lms.specs.Strings.{u32str}
use Rattle.st_hss.specs.declared.public.HssPublic.{HssPublic}

-- there is one signed key, and each key of the chain signs what is below it
pub record PartsHold (public : HssPublic) (message signed_keys key_signature key_text message_signature : List ℕ) : Type 0 where
  pub lower : PublicKey
  pub one : signed_keys ≡ u32str 1
  pub lower_is : public_in key_text ≡ Some lower
  pub signs_key : IsSignature public.top key_text key_signature
  pub signs_message : IsSignature lower message message_signature
