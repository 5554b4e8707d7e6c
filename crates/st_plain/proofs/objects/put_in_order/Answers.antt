use Rattle.std.proofs.Common.{rules, ◌≡◌, ◌++◌, None, false, map, ap, ap₂, ◌∙◌, take}
use Rattle.st_plain.specs.inside.Objects.{entries_in, joined, once}
use Rattle.st_plain.proofs.HeldLemmas.{once_held}
use Rattle.st_plain.proofs.objects.put_in_order.Goals as goal

pub returns : goal.returns
returns c =
    let text = c.args.text.now.items in
    let sorted = c.sort.new.places.items in
    let sort = c.in_ok-sort.ensures in
    let out : c.append_members.new.out.items ≡ joined false (once text None sorted) = search rules in
    let held = once_held text sorted (rw c.as_slice.ensures.value at sort.held) in
    let texts : once text None sorted ≡ map (λ e. e.1) (entries_in text c.args.places.items) = held ∙ ap (map (λ e. e.1)) (rw c.as_slice.ensures.value at sort.first) in
    let cut : c.truncate.new.self.items ≡ take c.args.from text = search rules in
    let ordered : c.as_slice-4.result.now ≡ joined false (map (λ e. e.1) (entries_in text c.args.places.items)) = c.as_slice-4.ensures.value ∙ out ∙ ap (joined false) texts in
    c.in_ok-push_all.ensures.ok ∙ ap₂ (λ x y. x ++ y) cut ordered
