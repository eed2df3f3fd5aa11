use Rattle.std.proofs.Common.{sym, ◌∙◌}
use Rattle.std.proofs.lemmas.Result.{err_from_is_err_and}
use Rattle.pb_wire.specs.Read.{type_number}
use Rattle.pb_wire.specs.WireCallAnswers.{value_in}
use Rattle.pb_wire.proofs.Keys.{field_by_value, with_number_upto}
use Rattle.pb_wire.proofs.values.read_field.Goals as goal

pub returns-in_err-value-clause-exact : goal.returns-in_err-value-clause-exact
returns-in_err-value-clause-exact c =
    let p = err_from_is_err_and c.from_residual-in_err-value.result c.from_residual-in_err-value.ensures.1 in
    rw (p.1, p.2) (sym (field_by_value c.args.at c.in_ok-key.value_at c.args.bytes.now c.in_ok-key.key c.in_ok-number.number (type_number c.in_ok-number.wire_type) _ c.in_ok-key.ensures.within.0 c.in_ok-key.ensures.exact c.in_ok-number.ensures c.in_err-value.ensures.exact))

pub returns-clause-exact : goal.returns-clause-exact
returns-clause-exact c =
    sym (field_by_value c.args.at c.in_ok-key.value_at c.args.bytes.now c.in_ok-key.key c.in_ok-number.number (type_number c.in_ok-number.wire_type) _ c.in_ok-key.ensures.within.0 c.in_ok-key.ensures.exact c.in_ok-number.ensures c.in_ok-value.ensures.exact
    ∙ with_number_upto c.args.at c.in_ok-key.value_at c.in_ok-value.next c.in_ok-number.number (value_in c.args.bytes.now c.in_ok-value.value) c.in_ok-key.ensures.within.0 c.in_ok-value.ensures.within.0)
