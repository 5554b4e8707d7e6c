use Rattle.std.proofs.Common.{◌∙◌, ap}
use Rattle.st_hash.specs.Hash.{uri_of}
use Rattle.st_content.specs.Files.{file_at}
use Rattle.st_content.proofs.FileLemmas.{file_at-with_file, file_at-with_file-other}
use Rattle.st_content.proofs.content.Content.put.Goals as goal

pub returns-clause-first : goal.returns-clause-first
returns-clause-first c =
    ap (file_at (uri_of c.args.bytes)) c.in_ok-put.ensures.ok ∙ file_at-with_file c.args.bytes c.args.self.now

pub returns-clause-others : goal.returns-clause-others
returns-clause-others c = λ uri other.
    ap (file_at uri) c.in_ok-put.ensures.ok ∙ file_at-with_file-other uri c.args.bytes c.args.self.now other
