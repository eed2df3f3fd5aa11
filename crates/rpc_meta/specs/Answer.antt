-- What reading a meta answers, as the definition of a meta says it; want of memory says nothing.
use Rattle.std.specs.Prelude.{ℕ, ℤ, Option, Some, None, option_map, Result, Ok, Err}
use Rattle.pb_wire.specs.brpc_model.specs.Meta as meta
use Rattle.pb_wire.specs.WireCallAnswers.{fault_of}
use Rattle.rpc_meta.specs.declared.fault.MetaFault.{MetaFault}
use Rattle.rpc_meta.specs.declared.fault.MetaFault.TheVariants.{Wire, NoService, NoMethod, Neither, NoMemory}
use Rattle.rpc_meta.specs.MetaMeaning.{made_meta}
use Rattle.rpc_meta.specs.Gathered.{Names, Outcome, Gathered}

-- a fault, or nothing for want of memory
abbrev pub meta_fault : MetaFault → Option meta.MetaFault
meta_fault (Wire fault) = Some (meta.Wrong (fault_of fault))
meta_fault NoService = Some meta.NoService
meta_fault NoMethod = Some meta.NoMethod
meta_fault Neither = Some meta.Neither
meta_fault NoMemory = None

-- what was read, or its fault
abbrev pub answer_as : {A B : Type 0} → (A → B) → Result A MetaFault → Option (Result B meta.MetaFault)
answer_as said (Ok read) = Some (Ok (said read))
answer_as said (Err fault) = option_map (λ f. Err f) (meta_fault fault)

-- a request of these fields
abbrev pub request_from : Option Names → Result (Option meta.RequestMeta) meta.MetaFault
request_from None = Ok None
request_from (Some n) = meta.names_of n.service n.method n.log_id

-- a response of these fields
abbrev pub response_from : Outcome → meta.ResponseMeta
response_from o = record { code = meta.int32 o.code; text = o.text }

-- a meta of these fields, which must have a request or a response
abbrev pub meta_with : Result (Option meta.RequestMeta) meta.MetaFault → Option meta.ResponseMeta → ℤ → ℕ → ℤ → Result meta.Meta meta.MetaFault
meta_with (Err fault) response compress id size = Err fault
meta_with (Ok None) None compress id size = Err meta.Neither
meta_with (Ok request) response compress id size = Ok (made_meta request response compress id size)

-- the meta that was gathered
abbrev pub meta_from : Gathered → Result meta.Meta meta.MetaFault
meta_from g = meta_with (request_from g.request) (option_map response_from g.response) (meta.int32 g.compress_type) g.correlation_id (meta.int32 g.attachment_size)
