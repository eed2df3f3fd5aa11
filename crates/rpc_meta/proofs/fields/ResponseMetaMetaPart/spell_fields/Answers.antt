use Rattle.std.proofs.Common.{◌≡◌, ℕ, ◌+◌, ◌≤◌, List, ◌++◌, length, ◌∙◌, ap, sym, subst, rules}
use Rattle.pb_wire.specs.brpc_model.specs.Spelling.{spelled_int, number_field, where_not_empty}
use Rattle.rpc_meta.proofs.Appending.{joined, room_for, room_behind}
use Rattle.rpc_meta.proofs.fields.ResponseMetaMetaPart.spell_fields.Goals as goal

pub spell_number-requires : goal.spell_number-requires
spell_number-requires c =
    let r = c.args.self.now in
    let before = c.args.out.now in
    let said : c.spelled.result ≡ spelled_int r.code = search rules in
    let P : ℕ → Type 0 = λ n. length before + length (number_field 1 n) ≤ 128 in
    subst P (sym said) (room_for before (number_field 1 (spelled_int r.code)) (where_not_empty 2 r.text) 128 c.requires)

pub spell_text-requires : goal.spell_text-requires
spell_text-requires c =
    let r = c.args.self.now in
    let before = c.args.out.now in
    let now = c.spell_number.new.out in
    let said : c.spelled.result ≡ spelled_int r.code = search rules in
    let first = c.spell_number.ensures ∙ ap (λ (n : ℕ). before ++ number_field 1 n) said in
    let P : List ℕ → Type 0 = λ l. length now + length (where_not_empty 2 l) ≤ 128 in
    subst P (sym c.as_slice.ensures) (room_behind before now (number_field 1 (spelled_int r.code)) (where_not_empty 2 r.text) 128 first c.requires)

pub returns-clause-exact : goal.returns-clause-exact
returns-clause-exact c =
    let r = c.args.self.now in
    let before = c.args.out.now in
    let now = c.spell_number.new.out in
    let said : c.spelled.result ≡ spelled_int r.code = search rules in
    let first = c.spell_number.ensures ∙ ap (λ (n : ℕ). before ++ number_field 1 n) said in
    joined before now c.spell_text.new.out (number_field 1 (spelled_int r.code)) (where_not_empty 2 r.text) first (c.spell_text.ensures ∙ ap (λ (l : List ℕ). now ++ where_not_empty 2 l) c.as_slice.ensures)
