use Rattle.std.proofs.Common.{◌∙◌, ◌/◌, ◌%◌, ap}
use Rattle.st_workload.proofs.OrderLemmas.{file_fed_is}
use Rattle.st_workload.specs.Identifier.{file_fed}
use Rattle.st_workload.proofs.order.feed_file.Goals as goal

pub returns : goal.returns
returns c =
    file_fed_is c.args.feed _ c.remove-file.result c.push.new.self c.remove-file.new.self c.remove-file.ensures.item
    c.remove-file.ensures.rest c.in_ok-push.ensures.ok
    ∙ ap (λ n. file_fed (c.args.w / 2 % n) c.args.feed) c.len.ensures
