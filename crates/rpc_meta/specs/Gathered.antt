-- What the fields of a meta come to, gathered one after another.
use Rattle.std.specs.Prelude.{ℕ, ◌==◌, if◌then◌else◌, fold, List, [], ◌∷◌, Option, Some, None, unwrap_or}
use Rattle.std.specs.List.{last_or}
use Rattle.pb_wire.specs.brpc_model.specs.Wire.{Value, Field}
use Rattle.pb_wire.specs.brpc_model.specs.Meta.{Part, Request, Response, Plain, varint_of, span_of}

-- the request's fields so far
pub record Names : Type 0 where
  pub service : Option (List ℕ)
  pub method : Option (List ℕ)
  pub log_id : Option ℕ

-- the response's fields so far
pub record Outcome : Type 0 where
  pub code : ℕ
  pub text : List ℕ

-- the meta's fields so far
pub record Gathered : Type 0 where
  pub request : Option Names
  pub response : Option Outcome
  pub compress_type : ℕ
  pub correlation_id : ℕ
  pub attachment_size : ℕ

-- what a field has, where it has this number and is of the wanted type
abbrev pub found : {A : Type 0} → (Value → List A) → ℕ → Field → List A
found wanted number f = if f.number == number then wanted f.value else []

-- the last one counts
abbrev pub latest : {A : Type 0} → A → List A → A
latest a [] = a
latest a (x ∷ xs) = latest x xs

-- no field of a request so far
abbrev pub no_names : Names
no_names = record { service = None; method = None; log_id = None }

-- no field of a response so far
abbrev pub no_outcome : Outcome
no_outcome = record { code = 0; text = [] }

-- no field of a meta so far
abbrev pub nothing : Gathered
nothing = record { request = None; response = None; compress_type = 0; correlation_id = 0; attachment_size = 0 }

-- a field of a request is added
abbrev pub name_added : Names → Field → Names
name_added n f = record {
  service = last_or n.service (found span_of 1 f);
  method = last_or n.method (found span_of 2 f);
  log_id = last_or n.log_id (found varint_of 3 f);
}

-- a field of a response is added
abbrev pub outcome_added : Outcome → Field → Outcome
outcome_added o f = record { code = latest o.code (found varint_of 1 f); text = latest o.text (found span_of 2 f) }

-- a part of a meta is added; occurrences of a message are merged
abbrev pub part_added : Gathered → Part → Gathered
part_added g (Request inside) = record g { request = Some (fold name_added (unwrap_or g.request no_names) inside) }
part_added g (Response inside) = record g { response = Some (fold outcome_added (unwrap_or g.response no_outcome) inside) }
part_added g (Plain f) = record g {
  compress_type = latest g.compress_type (found varint_of 3 f);
  correlation_id = latest g.correlation_id (found varint_of 4 f);
  attachment_size = latest g.attachment_size (found varint_of 5 f);
}
