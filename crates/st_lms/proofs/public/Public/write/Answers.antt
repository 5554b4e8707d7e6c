use Rattle.std.proofs.Common.{◌≡◌, ◌∙◌, ◌++◌, length, take, sym, ap, arith}
use Rattle.std.proofs.lemmas.List.{take_all}
use Rattle.st_lms.specs.Tree.{public_text}
use Rattle.st_lms.specs.Strings.{u32str}
use Rattle.st_lms.specs.OneTime.{one_time_number, tree_number}
use Rattle.st_lms.proofs.KeyLemmas.{length-u32str, written, one_time_known, tree_known}
use Rattle.st_lms.proofs.public.Public.write.Goals as goal

pub returns-clause-text : goal.returns-clause-text
unfolding public_text
returns-clause-text c =
    let tree = u32str (tree_number c.self.inside.tree) in
    let ots = u32str (one_time_number c.self.inside.ots) in
    let id = c.self.inside.id in
    let root = c.self.inside.root in
    let long : length c.put-4.new.row ≡ 56 = c.put-4.auto.row ∙ c.put-3.auto.row ∙ c.put-2.auto.row ∙ c.put.auto.row ∙ c.blank-text.ensures in
    let first : take 4 c.put.new.row ≡ tree = rw (c.u32str.ensures, c.number.ensures.number, length-u32str (tree_number c.self.inside.tree)) at c.put.ensures in
    let second : take 8 c.put-2.new.row ≡ tree ++ ots =
    rw (length-u32str (one_time_number c.self.inside.ots)) at (written tree ots c.put.new.row c.put-2.new.row 4 first (rw (c.u32str-2.ensures, c.parameters.ensures.number) at c.put-2.ensures)) in
    let third : take 24 c.put-3.new.row ≡ tree ++ ots ++ id =
    rw c.self.told.0 at (written (tree ++ ots) id c.put-2.new.row c.put-3.new.row 8 second c.put-3.ensures) in
    let fourth : take 56 c.put-4.new.row ≡ tree ++ ots ++ id ++ root =
    rw c.self.told.1 at (written (tree ++ ots ++ id) root c.put-3.new.row c.put-4.new.row 24 third c.put-4.ensures) in
    sym (take_all 56 c.put-4.new.row (omega arith)) ∙ fourth ∙ ap public_text c.self.view_is

pub returns-clause-known : goal.returns-clause-known
returns-clause-known c = rw (← c.self.view_is) (record {
  ots = one_time_known c.self.inside.ots;
  tree = tree_known c.self.inside.tree;
  id = c.self.told.0;
  root = c.self.told.1;
})
