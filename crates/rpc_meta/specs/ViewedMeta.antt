-- What a meta says whose names and text are seen where they lie.
use Rattle.std.specs.Prelude.{option_map}
use Rattle.pb_wire.specs.brpc_model.specs.Meta as meta
use Rattle.rpc_meta.specs.MetaMeaning.{made_meta}
use Rattle.rpc_meta.specs.declared.view.MetaView.{MetaView}
use Rattle.rpc_meta.specs.declared.view.RequestView.{RequestView}
use Rattle.rpc_meta.specs.declared.view.ResponseView.{ResponseView}

-- a request
abbrev pub request_viewed : RequestView → meta.RequestMeta
request_viewed r = record { service = r.service.now; method = r.method.now; log_id = r.log_id }

-- a response
abbrev pub response_viewed : ResponseView → meta.ResponseMeta
response_viewed r = record { code = r.code; text = r.text.now }

-- a meta
abbrev pub viewed : MetaView → meta.Meta
viewed m = made_meta (option_map request_viewed m.request) (option_map response_viewed m.response) m.compress_type m.correlation_id m.attachment_size
