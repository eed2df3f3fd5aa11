use Rattle.std.proofs.Common.{◌≡◌, ℕ, List, ◌++◌, ◌∙◌, ap, subst, rules}
use Rattle.pb_wire.specs.brpc_model.specs.Spelling.{spelled_int, number_field, where_not_empty}
use Rattle.rpc_meta.specs.MetaWriting.{Appends}
use Rattle.rpc_meta.proofs.Appending.{behind}
use Rattle.rpc_meta.proofs.fields.ResponseMetaMetaPart.append_fields.Goals as goal

pub returns-clause-written : goal.returns-clause-written
returns-clause-written c =
    let r = c.args.self.now in
    let before = c.args.out.now.items in
    let now = c.append_number.new.out.items in
    let said : c.spelled.result ≡ spelled_int r.code = search rules in
    let P : List ℕ → Type 0 = λ l. Appends now (where_not_empty 2 l) c.append_text.result c.append_text.new.out.items in
    behind before now c.append_text.new.out.items (number_field 1 (spelled_int r.code)) (where_not_empty 2 r.text) c.append_text.result
    (c.in_ok-append_number.ensures ∙ ap (λ (n : ℕ). before ++ number_field 1 n) said) (subst P c.as_slice.ensures c.append_text.ensures)
