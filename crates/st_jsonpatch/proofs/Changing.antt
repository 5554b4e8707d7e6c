-- Changes that are passed on by the calling functions.
use Rattle.std.proofs.Common.{◌≡◌, Option, Some, None, option_map, Result, Ok, Err, ap, sym, subst, ◌∙◌}
use Rattle.std.specs.Option.{OnSome}
use Rattle.st_plain.specs.Plain.{Plain}
use Rattle.st_canon.specs.declared.value.Json.{Json}
use Rattle.st_jsonpatch.specs.inside.Changed.{Changes}
use Rattle.st_jsonpatch.specs.declared.steps.ChangeRefused.{ChangeRefused}
use Rattle.st_jsonpatch.specs.declared.steps.ChangeRefused.TheVariants.{Fails, WantOfMemory}

-- the change that a call made to the entry, it made to the whole
pub whole_changes : {P : Type 0} (back : Plain → P) (change : Option Plain) (new : Plain) (whole : P) (r : Result (Option Json) ChangeRefused)
    → whole ≡ back new → Changes change new r → Changes (option_map back change) whole r
whole_changes back change new whole (Ok x) is made = ap (option_map back) made ∙ ap Some (sym is)
whole_changes back change new whole (Err Fails) is made = ap (option_map back) made
whole_changes back change new whole (Err WantOfMemory) is made = tt

pub on_some : {A P : Type 0} (r : Option A) → P → OnSome r P
on_some None p = tt
on_some (Some x) p = p

pub from_on_some : {A P : Type 0} {r : Option A} {x : A} → r ≡ Some x → OnSome r P → P
from_on_some {A} {P} {r} {x} is h = subst (λ o. OnSome o P) is h
