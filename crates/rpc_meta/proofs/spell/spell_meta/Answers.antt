use Rattle.std.proofs.Common.{◌≡◌, ℕ, ℤ, ◌+◌, ◌≤◌, List, ◌++◌, length, option_map, ap, sym, subst, ◌∙◌, rules, w32, to_z, of_z}
use Rattle.pb_wire.specs.brpc_model.specs.Meta as meta
use Rattle.pb_wire.specs.brpc_model.specs.Spelling.{number_field, where_not_0, bytes_field, where_some, request_bytes, response_bytes}
use Rattle.rpc_meta.specs.MetaMeaning.{request_of, response_of}
use Rattle.rpc_meta.specs.declared.meta.RpcMeta.{RpcMeta}
use Rattle.rpc_meta.proofs.Appending.{joined, room_for, room_behind}
use Rattle.rpc_meta.proofs.spell.spell_meta.Goals as goal

-- the request and the response
abbrev asked : RpcMeta → List ℕ
asked m = where_some (λ (r : meta.RequestMeta). bytes_field 1 (request_bytes r)) (option_map request_of m.request)

abbrev answered : RpcMeta → List ℕ
answered m = where_some (λ (r : meta.ResponseMeta). bytes_field 2 (response_bytes r)) (option_map response_of m.response)

abbrev parts : RpcMeta → List ℕ
parts m = asked m ++ answered m

-- and the numbers behind them, one more each
abbrev up_to_3 : RpcMeta → List ℕ
up_to_3 m = parts m ++ where_not_0 3 m.compress_type

abbrev up_to_4 : RpcMeta → List ℕ
up_to_4 m = up_to_3 m ++ number_field 4 m.correlation_id

abbrev up_to_5 : RpcMeta → List ℕ
up_to_5 m = up_to_4 m ++ where_not_0 5 m.attachment_size

room_4 : (out : List ℕ) (m : RpcMeta) → length out + length (up_to_5 m) ≤ 128 → length out + length (up_to_4 m) ≤ 128
room_4 out m h = room_for out (up_to_4 m) (where_not_0 5 m.attachment_size) 128 h

room_3 : (out : List ℕ) (m : RpcMeta) → length out + length (up_to_5 m) ≤ 128 → length out + length (up_to_3 m) ≤ 128
room_3 out m h = room_for out (up_to_3 m) (number_field 4 m.correlation_id) 128 (room_4 out m h)

all_room : (out : List ℕ) (m : RpcMeta) (all : ℕ) → all ≡ length (up_to_5 m) → length out + all ≤ 128 → length out + length (up_to_5 m) ≤ 128
all_room out m all e h = let P : ℕ → Type 0 = λ n. length out + n ≤ 128 in subst P e h

-- the pieces one behind another, up to the number 3 and up to the number 4
at_3 : (out one two three : List ℕ) (m : RpcMeta) (z : ℤ) → one ≡ out ++ asked m → two ≡ one ++ answered m → three ≡ two ++ where_not_0 3 z → z ≡ m.compress_type → three ≡ out ++ up_to_3 m
at_3 out one two three m z p q r e = joined out two three (parts m) (where_not_0 3 m.compress_type) (joined out one two (asked m) (answered m) p q) (r ∙ ap (λ z. two ++ where_not_0 3 z) e)

at_4 : (out one two three four : List ℕ) (m : RpcMeta) (z : ℤ) → one ≡ out ++ asked m → two ≡ one ++ answered m → three ≡ two ++ where_not_0 3 z → z ≡ m.compress_type →
    four ≡ three ++ number_field 4 m.correlation_id → four ≡ out ++ up_to_4 m
at_4 out one two three four m z p q r e s = joined out three four (up_to_3 m) (number_field 4 m.correlation_id) (at_3 out one two three m z p q r e) s

pub spell_int-requires : goal.spell_int-requires
spell_int-requires c =
    let m = c.args.meta.now in
    let before = c.args.out.now in
    let two = joined before c.spell_part.new.out c.spell_part-2.new.out (asked m) (answered m) c.spell_part.ensures.exact c.spell_part-2.ensures.exact in
    let fits : to_z w32 (of_z w32 m.compress_type) ≡ m.compress_type = search rules in
    let P : ℤ → Type 0 = λ z. length c.spell_part-2.new.out + length (where_not_0 3 z) ≤ 128 in
    subst P (sym fits) (room_behind before c.spell_part-2.new.out (parts m) (where_not_0 3 m.compress_type) 128 two (room_3 before m (all_room before m c.args.sizes.all c.requires.sizes.all c.requires.room)))

pub spell_number-requires : goal.spell_number-requires
spell_number-requires c =
    let m = c.args.meta.now in
    let fits : to_z w32 (of_z w32 m.compress_type) ≡ m.compress_type = search rules in
    let three = at_3 c.args.out.now c.spell_part.new.out c.spell_part-2.new.out c.spell_int.new.out m (to_z w32 (of_z w32 m.compress_type)) c.spell_part.ensures.exact c.spell_part-2.ensures.exact c.spell_int.ensures fits in
    room_behind c.args.out.now c.spell_int.new.out (up_to_3 m) (number_field 4 m.correlation_id) 128 three (room_4 c.args.out.now m (all_room c.args.out.now m c.args.sizes.all c.requires.sizes.all c.requires.room))

pub spell_int-requires-2 : goal.spell_int-requires-2
spell_int-requires-2 c =
    let m = c.args.meta.now in
    let fits : to_z w32 (of_z w32 m.compress_type) ≡ m.compress_type = search rules in
    let four = at_4 c.args.out.now c.spell_part.new.out c.spell_part-2.new.out c.spell_int.new.out c.spell_number.new.out m (to_z w32 (of_z w32 m.compress_type)) c.spell_part.ensures.exact c.spell_part-2.ensures.exact c.spell_int.ensures fits c.spell_number.ensures in
    let size_fits : to_z w32 (of_z w32 m.attachment_size) ≡ m.attachment_size = search rules in
    let P : ℤ → Type 0 = λ z. length c.spell_number.new.out + length (where_not_0 5 z) ≤ 128 in
    subst P (sym size_fits) (room_behind c.args.out.now c.spell_number.new.out (up_to_4 m) (where_not_0 5 m.attachment_size) 128 four (all_room c.args.out.now m c.args.sizes.all c.requires.sizes.all c.requires.room))

pub returns-clause-exact : goal.returns-clause-exact
returns-clause-exact c =
    let m = c.args.meta.now in
    let fits : to_z w32 (of_z w32 m.compress_type) ≡ m.compress_type = search rules in
    let four = at_4 c.args.out.now c.spell_part.new.out c.spell_part-2.new.out c.spell_int.new.out c.spell_number.new.out m (to_z w32 (of_z w32 m.compress_type)) c.spell_part.ensures.exact c.spell_part-2.ensures.exact c.spell_int.ensures fits c.spell_number.ensures in
    let size_fits : to_z w32 (of_z w32 m.attachment_size) ≡ m.attachment_size = search rules in
    joined c.args.out.now c.spell_number.new.out c.spell_int-2.new.out (up_to_4 m) (where_not_0 5 m.attachment_size) four (c.spell_int-2.ensures ∙ ap (λ (z : ℤ). c.spell_number.new.out ++ where_not_0 5 z) size_fits)
