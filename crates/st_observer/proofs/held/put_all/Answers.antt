use Rattle.std.proofs.Common.{◌≡◌, ◌∙◌, ℕ, List, [], ◌∷◌, ◌++◌, ap, append-nil, append_assoc, arith, drop, length, map, refl, reverse, subst, sym}
use Rattle.std.proofs.lemmas.List.{drop_all, reverse-append}
use Rattle.st_anchor.specs.Gives.{plain_given, suffixes_given}
use Rattle.st_hash.specs.Hash.{HashValue}
use Rattle.st_ops.specs.Operation.{PlainOperation}
use Rattle.st_observer.specs.Observed.{given_for}
use Rattle.st_observer.specs.Work.{operations_in}
use Rattle.st_observer.specs.inside.Steps.{at_place, with_given, PutsGiven}
use Rattle.st_observer.proofs.StoredLemmas.{given-first, popped}
use Rattle.st_observer.proofs.held.put_all.Goals as goal

pub puts-preserved : goal.puts-preserved
puts-preserved c =
    let all = c.args.given.items in
    let left = c.pop.new.self.items in
    let last = c.in-Some.last in
    let done = c.in_ok-done.done in
    let rest = popped all c.puts.left.items left last c.puts.invariant.split c.in-Some.ensures.items in
    let before : List (HashValue × PlainOperation) = map plain_given (drop (length c.puts.left.items) all) in
    let name : HashValue × ℕ = ((plain_given last).0, c.args.place) in
    record {
      split = c.puts.invariant.split ∙ ap (λ xs. xs ++ drop (length c.puts.left.items) all) c.in-Some.ensures.items
          ∙ append_assoc left (last ∷ []) (drop (length c.puts.left.items) all) ∙ ap (λ xs. left ++ xs) (sym rest);
      puts = subst (λ xs. PutsGiven c.args.place c.args.height (map plain_given xs) c.args.index done) (sym rest)
          (record {
            schedule = c.in_ok-done.ensures.schedule ∙ c.puts.invariant.puts.schedule;
            operations = λ suffix.
                c.in_ok-done.ensures.operations suffix
                ∙ ap (with_given c.args.place c.args.height (given_for suffix (plain_given last ∷ []))) (c.puts.invariant.puts.operations suffix)
                ∙ given-first c.args.place (operations_in suffix c.args.index) c.args.height suffix (plain_given last) before;
            changes =
                c.in_ok-done.ensures.changes ∙ ap (λ changes. changes ++ name ∷ []) c.puts.invariant.puts.changes
                ∙ append_assoc c.args.index.changes (reverse (at_place c.args.place (suffixes_given before))) (name ∷ [])
                ∙ ap (λ more. c.args.index.changes ++ more) (sym (reverse-append (name ∷ []) (at_place c.args.place (suffixes_given before))));
          });
    }

pub puts-init : goal.puts-init
puts-init c =
    let given = c.args.given.items in
    let none : drop (length given) given ≡ [] = drop_all (length given) given (omega arith) in
    record {
      split = sym (ap (λ xs. given ++ xs) none ∙ append-nil given);
      puts = subst (λ xs. PutsGiven c.args.place c.args.height (map plain_given xs) c.args.index c.args.index) (sym none)
          (record { schedule = refl; operations = λ suffix. refl; changes = sym (append-nil c.args.index.changes) });
    }
