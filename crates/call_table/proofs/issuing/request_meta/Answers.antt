use Rattle.std.proofs.Common.{arith, ap, length}
use Rattle.call_table.proofs.CallMetaSize.{short_meta}
use Rattle.call_table.proofs.issuing.request_meta.Goals as goal

pub returns-clause-short : goal.returns-clause-short
returns-clause-short c =
    short_meta c.in_ok-copy.field-0 c.in_ok-copy-2.field-0 c.args.correlation_id _
    (omega (arith, ap length (c.in_ok-copy.ensures {u = tt}), ap length c.service.ensures, c.requires.short_service))
    (omega (arith, ap length (c.in_ok-copy-2.ensures {u = tt}), ap length c.method.ensures, c.requires.short_method))
