use Rattle.std.proofs.Common.{◌≡◌, true, false, ◌∙◌, ap, refl, sym, rules, ℤ, w32, to_z, of_z}
use Rattle.call_table.proofs.EndingsByResponse.{compressed_told, compressed_outcome, peer_told, peer_outcome}
use Rattle.call_table.proofs.responses.on_response.Goals as goal

pub returns-then-not-is_zero-clause-exact : goal.returns-then-not-is_zero-clause-exact
returns-then-not-is_zero-clause-exact c = compressed_told c.args.frame (λ e. let k : false ≡ true = c.if-not-is_zero.ensures.1 (ap (λ y. to_z w32 (of_z w32 y)) e) in cc)

pub returns-then-not-is_zero-clause-outcome : goal.returns-then-not-is_zero-clause-outcome
returns-then-not-is_zero-clause-outcome c = λ id. compressed_outcome id c.args.frame (λ e. let k : false ≡ true = c.if-not-is_zero.ensures.1 (ap (λ y. to_z w32 (of_z w32 y)) e) in cc)

pub returns-then-not-is_zero-2-clause-exact : goal.returns-then-not-is_zero-2-clause-exact
returns-then-not-is_zero-2-clause-exact c =
    let code : ℤ = c.response_code-code.result in
    let is_code : to_z w32 (of_z w32 code) ≡ code = search rules in
    let type_is : to_z w32 (of_z w32 c.args.frame.meta.compress_type) ≡ c.args.frame.meta.compress_type = search rules in
    rw is_code (peer_told c.args.frame code (sym type_is ∙ c.if-not-is_zero.ensures.0 refl) c.requires c.response_code-code.ensures
    (λ e. let k : false ≡ true = c.if-not-is_zero-2.ensures.1 (is_code ∙ e) in cc))

pub returns-then-not-is_zero-2-clause-outcome : goal.returns-then-not-is_zero-2-clause-outcome
returns-then-not-is_zero-2-clause-outcome c = λ id.
    let code : ℤ = c.response_code-code.result in
    let is_code : to_z w32 (of_z w32 code) ≡ code = search rules in
    let type_is : to_z w32 (of_z w32 c.args.frame.meta.compress_type) ≡ c.args.frame.meta.compress_type = search rules in
    rw is_code (peer_outcome id c.args.frame code (sym type_is ∙ c.if-not-is_zero.ensures.0 refl) c.requires c.response_code-code.ensures
    (λ e. let k : false ≡ true = c.if-not-is_zero-2.ensures.1 (is_code ∙ e) in cc))
