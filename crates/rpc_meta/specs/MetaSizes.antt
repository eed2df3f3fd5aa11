-- How many bytes a meta has.
use Rattle.std.specs.Prelude.{◌≡◌, ℕ, List, length, Option, IfSome}
use Rattle.pb_wire.specs.brpc_model.specs.Meta.{Meta}
use Rattle.pb_wire.specs.brpc_model.specs.Spelling.{request_bytes, response_bytes, meta_bytes}
use Rattle.rpc_meta.specs.declared.sizes.MetaSizes.{MetaSizes}

-- so many bytes the fields of a part have, where there is one
abbrev pub IsSizeOf : {S : Type 0} → (S → List ℕ) → Option S → ℕ → Type 0
IsSizeOf bytes o n = IfSome o (λ part. n ≡ length (bytes part))

-- these are the sizes of a meta
pub record AreSizes (s : MetaSizes) (m : Meta) : Type 0 where
  pub all : s.all ≡ length (meta_bytes m)
  pub request : IsSizeOf request_bytes m.request s.request
  pub response : IsSizeOf response_bytes m.response s.response
