use Rattle.std.proofs.Common.{◌∙◌, ap, arith, length}
use Rattle.st_lanes.proofs.Lanes.{put_value}
use Rattle.st_lanes.proofs.rows.put.Goals as goal

pub returns-clause-value : goal.returns-clause-value
returns-clause-value c =
    let value = c.copy_from_slice.ensures.after in
    (put_value c.args.row.now _ c.args.i _ (omega arith) (omega (arith, c.told-row)) (ap length value ∙ c.told-value)).0 ∙ value

pub returns-clause-others : goal.returns-clause-others
returns-clause-others c m other =
    (put_value c.args.row.now _ c.args.i _ (omega arith) (omega (arith, c.told-row)) (ap length c.copy_from_slice.ensures.after ∙ c.told-value)).1 m other
