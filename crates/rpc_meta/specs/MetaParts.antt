-- The parts of a meta that were met, as they are gathered.
use Rattle.std.specs.Prelude.{ℕ, List, Option, option_map}
use Rattle.std.specs.Borrow.{Bor}
use Rattle.rpc_meta.specs.declared.parts.RequestParts.{RequestParts}
use Rattle.rpc_meta.specs.declared.parts.ResponseParts.{ResponseParts}
use Rattle.rpc_meta.specs.declared.parts.MetaParts.{MetaParts}
use Rattle.rpc_meta.specs.Gathered.{Names, Outcome, Gathered}

-- the bytes that a slice has
abbrev pub listed : Option (Bor (List ℕ)) → Option (List ℕ)
listed o = option_map (λ (s : Bor (List ℕ)). s.now) o

-- the fields of a request
abbrev pub names_of : RequestParts → Names
names_of r = record { service = listed r.service; method = listed r.method; log_id = r.log_id }

-- the fields of a response
abbrev pub outcome_of : ResponseParts → Outcome
outcome_of r = record { code = r.code; text = r.text.now }

-- the fields of a meta
abbrev pub gathered_of : MetaParts → Gathered
gathered_of m = record {
  request = option_map names_of m.request;
  response = option_map outcome_of m.response;
  compress_type = m.compress_type;
  correlation_id = m.correlation_id;
  attachment_size = m.attachment_size;
}
