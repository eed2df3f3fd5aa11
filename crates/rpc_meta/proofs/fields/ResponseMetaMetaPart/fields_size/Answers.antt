use Rattle.std.proofs.Common.{◌≡◌, ℕ, ◌+◌, List, ◌++◌, length, ◌∙◌, ap, rules}
use Rattle.pb_wire.specs.brpc_model.specs.Spelling.{spelled_int, number_field, where_not_empty}
use Rattle.rpc_meta.proofs.SummedPieceLengths.{summed, unfit, two}
use Rattle.rpc_meta.proofs.fields.ResponseMetaMetaPart.fields_size.Goals as goal

-- the two fields together
both : (c : goal.After-checked_add) → c.number_size-code.result + c.in_ok-text.text ≡ length (number_field 1 (spelled_int c.args.self.now.code) ++ where_not_empty 2 c.args.self.now.text)
both c =
    let r = c.args.self.now in
    let said : c.spelled.result ≡ spelled_int r.code = search rules in
    two (number_field 1 (spelled_int r.code)) (where_not_empty 2 r.text) c.number_size-code.result c.in_ok-text.text (c.number_size-code.ensures.size ∙ ap (λ (n : ℕ). length (number_field 1 n)) said)
    (c.in_ok-text.ensures.size ∙ ap (λ (l : List ℕ). length (where_not_empty 2 l)) c.as_slice.ensures)

pub returns-clause-size : goal.returns-clause-size
returns-clause-size c = summed c.checked_add.result _ _ _ c.checked_add.ensures (both c)

pub returns-clause-none : goal.returns-clause-none
returns-clause-none c = unfit c.checked_add.result _ _ c.checked_add.ensures (both c)
