-- What a call that appends leaves, and which metas are read back.
use Rattle.std.specs.Prelude.{ℕ, ◌≡◌, ◌<◌, ◌^◌, ◌⊎◌, List, ◌++◌, length, take, Option, IfSome, IsSome, Result, MatchResult, FitsSigned}
use Rattle.std.specs.Int.{w32}
use Rattle.pb_wire.specs.brpc_model.specs.Meta.{RequestMeta, ResponseMeta, Meta}
use Rattle.pb_wire.specs.brpc_model.specs.Spelling.{bytes_field, where_some}

-- this piece is appended, or the call fails and what stood there stays in front
abbrev pub Appends : {E : Type 0} → List ℕ → List ℕ → Result (Unit {0}) E → List ℕ → Type 0
Appends old piece result new = MatchResult result (λ _. new ≡ old ++ piece) (λ _. take (length old) new ≡ old)

-- the bytes of a part under a number, where there is one
abbrev pub part_field : {S : Type 0} → ℕ → (S → List ℕ) → Option S → List ℕ
part_field number bytes o = where_some (λ part. bytes_field number (bytes part)) o

-- there is a request or a response
abbrev pub HasPart : Meta → Type 0
HasPart m = IsSome m.request ⊎ IsSome m.response

-- a request's numbers fit their types
abbrev pub RequestFits : Option RequestMeta → Type 0
RequestFits o = IfSome o (λ r. IfSome r.log_id (λ n. n < 2 ^ 64))

-- a response's numbers fit their types
abbrev pub ResponseFits : Option ResponseMeta → Type 0
ResponseFits o = IfSome o (λ r. FitsSigned w32 r.code)

-- a meta's numbers fit their types
pub record MetaFits (m : Meta) : Type 0 where
  pub request : RequestFits m.request
  pub response : ResponseFits m.response
  pub compress_type : FitsSigned w32 m.compress_type
  pub correlation_id : m.correlation_id < 2 ^ 64
  pub attachment_size : FitsSigned w32 m.attachment_size
