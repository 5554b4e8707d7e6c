-- How the logic stores a node that receives lines. No statement about them depends on it.
use Rattle.std.specs.Coded.{Coded, code_by, coded_ℕ, coded×}
use Rattle.std.specs.Prelude.{ℕ, refl, ◌+◌, ◌*◌, ◌≤◌}
use Rattle.st_generate.specs.Talk.{TalkValue}
use Rattle.st_generate.specs.declared.talk.Accepted.{Accepted}

abbrev coded_accepted : Coded Accepted
coded_accepted =
    code_by (ℕ × (ℕ × (ℕ × ℕ))) (coded× coded_ℕ (coded× coded_ℕ (coded× coded_ℕ coded_ℕ)))
    (λ a. (a.submissions, (a.anchors, (a.rollbacks, a.files))))
    (λ p. record { submissions = p.0; anchors = p.1.0; rollbacks = p.1.1.0; files = p.1.1.1 })
    (λ _. refl)

-- one as the pair of its fields
abbrev pub coded_talk : {M : Type 0} → Coded M → Coded (TalkValue M)
coded_talk {M} coded =
    code_by (M × Accepted) (coded× coded coded_accepted)
    (λ t. (t.machine, t.accepted)) (λ p. record { machine = p.0; accepted = p.1 }) (λ _. refl)

-- ---- The reads of a node are paid by the anchors that it accepts: each of them pays for five files.

-- the files read, plus those that may still be read, are at most five for each anchor
unfoldable pub IsPaid : ℕ → ℕ → ℕ → Type 0
IsPaid read due anchors = read + due ≤ 5 * anchors
