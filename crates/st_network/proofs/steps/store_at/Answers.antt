use Rattle.std.proofs.Common.{◌∙◌, ap, codes}
use Rattle.st_base.specs.Texts.{reply}
use Rattle.st_hash.specs.Hash.{hash_text, uri_of}
use Rattle.st_network.proofs.NetworkLemmas.{set_with}
use Rattle.st_network.proofs.steps.store_at.Goals as goal

pub returns-clause-answer : goal.returns-clause-answer
returns-clause-answer g c =
    set_with c.args.nodes c.remove-node.new.self c.insert.new.self c.args.at c.remove-node.result c.in_ok-node.node
    c.requires c.remove-node.ensures.item c.remove-node.ensures.rest c.in_ok-insert.ensures.ok
    (λ node. g.N.Peer.peer.stored node c.args.bytes) (λ node. reply (codes "stored ") (hash_text (uri_of c.args.bytes)))
    c.in_ok-text.text c.in_ok-node.ensures.next
    (c.in_ok-text.ensures
    ∙ ap (reply (codes "stored ")) (c.as_bytes.ensures.value ∙ c.as_str.ensures ∙ c.in_ok-uri.ensures.value ∙ ap hash_text c.in_ok-node.ensures.uri))

pub returns-clause-due : goal.returns-clause-due
returns-clause-due g c = (c.remove-node.result, c.remove-node.ensures.item, c.keep.ensures.due)

pub returns-in_err-node-clause-due : goal.returns-in_err-node-clause-due
returns-in_err-node-clause-due g c = (c.remove-node.result, c.remove-node.ensures.item, c.keep.ensures.due)

pub returns-in_err-uri-clause-due : goal.returns-in_err-uri-clause-due
returns-in_err-uri-clause-due g c = (c.remove-node.result, c.remove-node.ensures.item, c.keep.ensures.due)

pub returns-in_err-text-clause-due : goal.returns-in_err-text-clause-due
returns-in_err-text-clause-due g c = (c.remove-node.result, c.remove-node.ensures.item, c.keep.ensures.due)

pub returns-in_err-insert-clause-due : goal.returns-in_err-insert-clause-due
returns-in_err-insert-clause-due g c = (c.remove-node.result, c.remove-node.ensures.item, c.keep.ensures.due)
