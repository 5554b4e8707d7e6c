use Rattle.std.proofs.Common.{◌≡◌, [], rules}
use Rattle.st_plain.specs.Shapes.{whole_value}
use Rattle.st_plain.proofs.RespellingLemmas.{text_is_data, text_is_not_whole, text_is_whole}
use Rattle.st_plain.proofs.respelling.respell_text.Goals as goal

pub returns-then-is_whole-clause-value : goal.returns-then-is_whole-clause-value
returns-then-is_whole-clause-value c =
    let next = c.in_ok-respell.ensures.next in
    let none : c.respell.new.reader ≡ [] = search rules in
    let read = text_is_data c.args.text.now next.is c.utf8.text (rw (c.in-Ok.ensures.ok, none) at next.read) in
    (text_is_whole c.args.text.now c.respell.new.out.items (whole_value next.is) read (rw c.in_ok-out.ensures.items at next.written) (search rules)).1

pub returns-then-is_whole-clause-again : goal.returns-then-is_whole-clause-again
returns-then-is_whole-clause-again c =
    let next = c.in_ok-respell.ensures.next in
    let none : c.respell.new.reader ≡ [] = search rules in
    let read = text_is_data c.args.text.now next.is c.utf8.text (rw (c.in-Ok.ensures.ok, none) at next.read) in
    (text_is_whole c.args.text.now c.respell.new.out.items (whole_value next.is) read (rw c.in_ok-out.ensures.items at next.written) (search rules)).0

pub returns-clause-refusal : goal.returns-clause-refusal
returns-clause-refusal c =
    let next = c.in_ok-respell.ensures.next in
    let none : c.respell.new.reader ≡ [] = search rules in
    let read = text_is_data c.args.text.now next.is c.utf8.text (rw (c.in-Ok.ensures.ok, none) at next.read) in
    text_is_not_whole c.args.text.now c.respell.new.out.items (whole_value next.is) read (rw c.in_ok-out.ensures.items at next.written) (search rules)
