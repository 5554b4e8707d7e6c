-- The reference machine of the wallet: its answer to a line, and the state of its disk afterwards. It has no other
-- state.
use Rattle.std.specs.Fmt.{decimal}
use Rattle.std.specs.Prelude.{◌≡◌, ◌⊎◌, ℕ, ◌==◌, IsSome, nat_le, List, [], ◌∷◌, ◌++◌, codes, if◌then◌else◌, Option, Some, None, Result, Ok, Err, IfOk, IfSome, ⊤, ◌+◌, ◌≤◌, ◌<◌}
use Rattle.st_base.specs.Texts.{reply, spaced}
use Rattle.st_io.specs.Past.{LeftSinceSync, Leaves, Past, StaysAsItWas, KeepsSpent, SpentInAll, Storage}
use Rattle.st_io.specs.Histories.{IfTold}
use Rattle.st_plain.specs.Plain.{canonical}
use Rattle.st_hash.specs.Hash.{base64url, hash_text}
use Rattle.st_lms.specs.Tree.{PublicKey, SecretKey, public_text}
use Rattle.st_lms.specs.Signature.{public_of}
use Rattle.st_vault.specs.Image.{IsSpent, VaultValue, left_of, new_vault, vault_after}
use Rattle.st_vault.specs.Vault.{AllOpenAs, opened}
use Rattle.st_hss.specs.Public.{hss_public_text}
use Rattle.st_hss.specs.Uses.{hss_public_of, hss_signature_of}
use Rattle.st_hss.specs.declared.public.HssPublic.{HssPublic}
use Rattle.st_jws.specs.Jwk.{commitment_of, reveal_of, jwk_json}
use Rattle.st_jws.specs.declared.jwk.Jwk.{Jwk}
use Rattle.st_ops.specs.Operation.{PlainOperation, suffix_of}
use Rattle.st_ops.specs.Request.{request_text}
use Rattle.st_wallet.specs.Command.{command_of, format_in}
use Rattle.st_wallet.specs.Drafts.{create_asked, deactivate_asked, key_with, recover_asked, signed_by, update_asked, Found, IsFoundOn, opens, found_in}
use Rattle.st_wallet.specs.Drafts.Found.{Blank, Damaged, Opened}
use Rattle.st_wallet.specs.declared.command.Command.{Command}
use Rattle.st_wallet.specs.declared.command.Command.TheVariants.{Format, Key, Left, Create, Update, Recover, Deactivate, SignHss}
use Rattle.st_wallet.specs.declared.command.LineCause.{LineCause}
use Rattle.st_wallet.specs.declared.command.LineCause.TheVariants as line_is
use Rattle.st_wallet.specs.declared.draft.Draft.{Draft}
use Rattle.st_wallet.specs.declared.draft.DraftRefused.{DraftRefused}
use Rattle.st_wallet.specs.declared.draft.DraftRefused.TheVariants.{BadHash, NotJson, NotWhole, BadDelta, WantOfMemory}
use Rattle.st_wallet.specs.declared.planning.Plan.{Plan}
use Rattle.st_wallet.specs.declared.planning.Plan.TheVariants.{Tell, Sign, SignMessage}
use Rattle.st_wallet.specs.declared.signing_vault.WalletRefused.{WalletRefused}

-- the state after a line, the reply to it, and the counter that the reply used, if any
pub record Answered : Type 0 where
  pub next : Found
  pub reply : List ℕ
  pub counter : Option ℕ

-- ---- replies

-- `refused <cause>`
abbrev pub refused_reply : List ℕ → List ℕ
refused_reply cause = reply (codes "refused ") cause

-- `formatted <base64url of the public key>`
abbrev pub formatted_reply : PublicKey → List ℕ
formatted_reply public = reply (codes "formatted ") (base64url (public_text public))

-- `key <reveal> <commitment> <canonical JWK>`
abbrev pub key_reply : Jwk → List ℕ
key_reply key =
    reply (codes "key") (spaced (hash_text (reveal_of key) ∷ hash_text (commitment_of key) ∷ canonical (jwk_json key) ∷ []))

-- `left <n>`
abbrev pub left_reply : VaultValue → List ℕ
left_reply vault = reply (codes "left ") (decimal (left_of vault))

-- `request <suffix> <canonical request>`
abbrev pub request_reply : PlainOperation → List ℕ
request_reply operation = reply (codes "request") (spaced (hash_text (suffix_of operation) ∷ request_text operation ∷ []))

-- `hss <base64url of the public key> <base64url of the signature>`
abbrev pub hss_reply : HssPublic → List ℕ → List ℕ
hss_reply public signature = reply (codes "hss") (spaced (base64url (hss_public_text public) ∷ base64url signature ∷ []))

-- why a line is not a command
abbrev pub cause_word : LineCause → List ℕ
cause_word line_is.Long = codes "long"
cause_word line_is.Command = codes "command"
cause_word line_is.Words = codes "words"
cause_word line_is.Number = codes "number"
cause_word line_is.Hex = codes "hex"
cause_word line_is.Base64 = codes "base64"

-- why there is no operation; running out of memory never appears here
abbrev pub draft_word : DraftRefused → List ℕ
draft_word BadHash = codes "badHash"
draft_word NotJson = codes "notJson"
draft_word NotWhole = codes "notWhole"
draft_word BadDelta = codes "badDelta"
draft_word WantOfMemory = []

-- ---- answers

-- this reply, and nothing changes
abbrev pub replied : Found → List ℕ → Answered
replied found text = record { next = found; reply = text; counter = None }

-- `refused <cause>`, and nothing changes
abbrev pub refused : Found → List ℕ → Answered
refused found cause = replied found (refused_reply cause)

-- the disk becomes a vault of this key, with no spent counter
abbrev pub answered_format : SecretKey → Answered
answered_format key = record {
  next = Opened (new_vault key);
  reply = formatted_reply (public_of key);
  counter = None;
}

-- this reply, which uses the next counter: that is spent
abbrev pub taken : VaultValue → List ℕ → Answered
taken vault text = record {
  next = Opened (vault_after vault);
  reply = text;
  counter = Some vault.next;
}

-- the same, if a counter is left
abbrev pub taken_if_left : VaultValue → List ℕ → Answered
taken_if_left vault text = if nat_le 1 (left_of vault) then taken vault text else refused (Opened vault) (codes "exhausted")

-- the request for an operation, signed with the next counter
abbrev pub answered_draft : VaultValue → Draft → Answered
answered_draft vault draft = taken_if_left vault (request_reply (signed_by vault.key vault.next draft))

-- the signature of a message with two levels and the next counter (RFC 8554, section 6)
abbrev pub answered_hss : VaultValue → List ℕ → Answered
answered_hss vault message =
    taken_if_left vault (hss_reply (hss_public_of vault.key) (hss_signature_of vault.key vault.next message))

-- ---- the plan of a command over a vault: a reply, or something to sign

-- a request that needs no signature, or why there is none
abbrev pub created_reply : Result PlainOperation DraftRefused → List ℕ
created_reply (Ok operation) = request_reply operation
created_reply (Err refusal) = refused_reply (draft_word refusal)

-- the request for a create
abbrev pub create_reply : PublicKey → Option (List ℕ) → List ℕ → List ℕ
create_reply public nonce delta = created_reply (create_asked public nonce delta)

-- an operation to sign, or why there is none
abbrev pub planned : Result Draft DraftRefused → Plan
planned (Ok draft) = Sign draft
planned (Err refusal) = Tell (refused_reply (draft_word refusal))

-- a message to sign with two levels, which requires a vault with 1,024 counters
abbrev pub planned_hss : VaultValue → List ℕ → Plan
planned_hss vault message = if vault.key.tree == 6 then SignMessage message else Tell (refused_reply (codes "tree"))

-- by the command
abbrev pub plan_of : VaultValue → Command → Plan
plan_of vault (Format key) = Tell (refused_reply (codes "formatted"))
plan_of vault (Key nonce) = Tell (key_reply (key_with (public_of vault.key) nonce))
plan_of vault Left = Tell (left_reply vault)
plan_of vault (Create nonce delta) = Tell (create_reply (public_of vault.key) nonce delta)
plan_of vault (Update suffix nonce delta) = planned (update_asked (public_of vault.key) suffix nonce delta)
plan_of vault (Recover suffix nonce next delta) = planned (recover_asked (public_of vault.key) suffix nonce next delta)
plan_of vault (Deactivate suffix nonce) = planned (deactivate_asked (public_of vault.key) suffix nonce)
plan_of vault (SignHss message) = planned_hss vault message

-- a plain reply changes nothing
abbrev pub answered_plan : VaultValue → Plan → Answered
answered_plan vault (Tell text) = replied (Opened vault) text
answered_plan vault (Sign draft) = answered_draft vault draft
answered_plan vault (SignMessage message) = answered_hss vault message

-- ---- commands

-- on a blank disk only a `format` is accepted
abbrev pub answered_blank : Option SecretKey → Answered
answered_blank (Some key) = answered_format key
answered_blank None = refused Blank (codes "blank")

-- by the state of the disk
abbrev pub answered_command : Found → Command → Answered
answered_command Damaged command = refused Damaged (codes "damaged")
answered_command Blank command = answered_blank (format_in command)
answered_command (Opened vault) command = answered_plan vault (plan_of vault command)

-- ---- lines

-- the command of a line, or why it is not one
abbrev pub answered_read : Found → Result Command LineCause → Answered
answered_read found (Ok command) = answered_command found command
answered_read found (Err cause) = replied found (reply (codes "refused line ") (cause_word cause))

-- the answer to a line
abbrev pub answered : Found → List ℕ → Answered
answered found line = answered_read found (command_of line)

-- the replies to lines, one after another
abbrev pub replies : Found → List (List ℕ) → List ℕ
replies found [] = []
replies found (line ∷ lines) = (answered found line).reply ++ replies (answered found line).next lines

-- for each of these replies its counter, if it has one
abbrev pub counters : Found → List (List ℕ) → List (Option ℕ)
counters found [] = []
counters found (line ∷ lines) = (answered found line).counter ∷ counters (answered found line).next lines

-- The wallet is the one after the answer, and its reply is returned.
abbrev pub AnswersWith : Answered → Found × List ℕ → Type 0
AnswersWith answer done = (done.0 ≡ answer.next) × (done.1 ≡ answer.reply)

-- A disk that does not reveal its contents seemed blank but is formatted: that is refused, and nothing changes.
pub record IsRefusedUntold (told : Option (List ℕ)) (found : Found) (done : Found × List ℕ) : Type 0 where
  pub untold : told ≡ None
  pub blank : found ≡ Blank
  pub answers : AnswersWith (refused Blank (codes "formatted")) done

-- the answer, or that refusal if the line is a `format`
abbrev pub AnswersOrRefuses : Option (List ℕ) → Found → (asked : Option SecretKey) → Answered → Found × List ℕ → Type 0
AnswersOrRefuses told found asked answer done = AnswersWith answer done ⊎ (IsSome asked × IsRefusedUntold told found done)

-- the key of a line's `format`
abbrev pub asked_by : Result Command LineCause → Option SecretKey
asked_by (Ok command) = format_in command
asked_by (Err cause) = None

-- ---- The effect of a line on the disk.

-- the counter of a reply, if it has one, is spent in every image
abbrev pub IsCounterSpent : Option ℕ → Past → Type 0
IsCounterSpent counter past = IfSome counter (λ q. SpentInAll IsSpent past q)

-- the counter of a reply, if it has one, is not spent in this image
abbrev pub IsCounterFresh : Option ℕ → List ℕ → Type 0
IsCounterFresh counter image = IfSome counter (λ q. IsSpent image q → ⊥)

-- each present image has this state
abbrev pub AllFound : Found → Past → Type 0
AllFound found past = AllOpenAs (opens found) past

-- an image has the state before a line or after it
abbrev pub IsBeforeOrAfter : (before after : Found) → List ℕ → Type 0
IsBeforeOrAfter before after image = (opened image ≡ opens before) ⊎ (opened image ≡ opens after)

-- The opening of a disk as a wallet.
pub record OpensOn (disk : Storage) (result : Result Found WalletRefused) : Type 0 where
  -- the state of the wallet is that of the contents, and of every image
  pub found : IfOk result (IsFoundOn disk.reads)
  pub found_now : IfOk result (IsFoundOn disk.reads_behind)
  pub all_found : IfOk result (λ wallet. IfTold disk.reads_behind (λ image. AllFound wallet disk.behind))
  -- a stop at any moment of the call leaves only what it might have left before
  pub as_it_was : StaysAsItWas disk.reads disk.reads_behind disk.before disk.behind
  pub synced : IfTold disk.reads (λ old. (image : List ℕ)
      → LeftSinceSync disk.behind disk.before.now image → opened image ≡ opened old)
  pub stays : KeepsSpent IsSpent disk.before disk.behind

-- A line with this answer was carried out on a disk with this state, and this is the state of the returned wallet.
pub record HasStepped (found : Found) (answer : Answered) (disk : Storage) (next : Found) : Type 0 where
  -- it is that of the contents
  pub reads : IsFoundOn disk.reads_behind next
  pub told : IfTold disk.reads (λ image. IsSome disk.reads_behind)
  -- the counter of the reply was not spent before, and is spent in every image when the reply is given
  pub fresh : IfTold disk.reads (λ image. IsCounterFresh answer.counter image)
  pub spent : IfTold disk.reads (λ image. IsCounterSpent answer.counter disk.behind)
  -- if a stop before the line leaves the state before it, a stop after the reply leaves only the next one
  pub all_found : IfTold disk.reads_behind (λ image. AllFound found disk.before → AllFound next disk.behind)

-- The effect of a line with this answer on a disk with this state.
pub record StepsOn (found : Found) (answer : Answered) (disk : Storage) (result : Result (Found × List ℕ) WalletRefused) : Type 0 where
  -- a line that leaves the machine unchanged leaves the disk unchanged
  pub untouched : answer.next ≡ found → disk.kept
  -- if a stop before the line leaves this state, a stop at any moment of it leaves this state or the next one
  pub moments : IfTold disk.reads (λ image. AllFound found disk.before
      → Leaves (IsBeforeOrAfter found answer.next) disk.before disk.behind)
  -- counters that were spent in every image stay so at each moment of the line
  pub stays : IfTold disk.reads (λ image. KeepsSpent IsSpent disk.before disk.behind)
  -- and so it is when the reply is given
  pub done : IfOk result (λ done. HasStepped found answer disk done.0)

-- ---- The counters that replies to lines use.

-- the next counter, or 0 if there is no vault
abbrev pub next_in : Found → ℕ
next_in Blank = 0
next_in Damaged = 0
next_in (Opened vault) = vault.next

-- these counters start at the first or later, and each is greater than the previous one
abbrev pub AscendFrom : ℕ → List (Option ℕ) → Type 0
AscendFrom first [] = ⊤
AscendFrom first (None ∷ more) = AscendFrom first more
AscendFrom first (Some q ∷ more) = (first ≤ q) × AscendFrom (q + 1) more

-- The counters of all replies to a list of lines ascend, from the next counter on: no two are the same.
abbrev pub CountersAscend : Type 0
CountersAscend = (found : Found) (lines : List (List ℕ)) → AscendFrom (next_in found) (counters found lines)

-- Counters spent in an image are below them.
abbrev pub SpentLieBelow : Type 0
SpentLieBelow = (image : List ℕ) (q : ℕ) → IsSpent image q → q < next_in (found_in image)
