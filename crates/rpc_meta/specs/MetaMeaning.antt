-- What a meta says, as the definition of a meta has it.
use Rattle.std.specs.Prelude.{ℕ, ℤ, Option, option_map}
use Rattle.pb_wire.specs.brpc_model.specs.Meta as meta
use Rattle.rpc_meta.specs.declared.meta.RpcMeta.{RpcMeta}
use Rattle.rpc_meta.specs.declared.meta.RequestMeta.{RequestMeta}
use Rattle.rpc_meta.specs.declared.meta.ResponseMeta.{ResponseMeta}

-- a request
abbrev pub request_of : RequestMeta → meta.RequestMeta
request_of r = record { service = r.service; method = r.method; log_id = r.log_id }

-- a response
abbrev pub response_of : ResponseMeta → meta.ResponseMeta
response_of r = record { code = r.code; text = r.text }

-- a meta of these parts and numbers
abbrev pub made_meta : Option meta.RequestMeta → Option meta.ResponseMeta → ℤ → ℕ → ℤ → meta.Meta
made_meta request response compress id size = record {
  request = request;
  response = response;
  compress_type = compress;
  correlation_id = id;
  attachment_size = size;
}

-- a meta
abbrev pub meaning : RpcMeta → meta.Meta
meaning m = made_meta (option_map request_of m.request) (option_map response_of m.response) m.compress_type m.correlation_id m.attachment_size
