-- If any bytes are a request for the operation, its own text is.
use Rattle.std.proofs.Common.{◌∙◌, ap, subst}
use Rattle.st_plain.specs.Plain.{canonical, IsProper}
use Rattle.st_ops.specs.Operation.{plain_operation}
use Rattle.st_ops.specs.Request.{request_of}
use Rattle.st_ops.proofs.AgainLemmas.{accepted, accepted_again}
use Rattle.st_ops.proofs.writing.write_request.Goals as goal

pub returns-clause-read : goal.returns-clause-read
returns-clause-read c = λ limits bytes asked within.
    let json = c.in_ok-request.ensures in
    let written = c.in_ok-write.ensures.text ∙ ap canonical json in
    let proper = subst IsProper json c.in_ok-write.ensures.proper in
    let operation = plain_operation c.args.operation.now in
    ap (request_of limits) written ∙ accepted_again limits operation (accepted limits bytes operation asked c.know_hashes.ensures) proper within
