-- A meta that was built of what was gathered is the one that its definition has.
use Rattle.std.proofs.Common.{◌≡◌, ◌⊎◌, ℕ, ℤ, List, true, false, Option, Some, None, option_map, Result, Ok, Err, IfSome, refl, ap, sym, ◌∙◌, inl, inr}
use Rattle.std.specs.Option.{is_some}
use Rattle.pb_wire.specs.brpc_model.specs.Meta as meta
use Rattle.rpc_meta.specs.declared.fault.MetaFault.{MetaFault}
use Rattle.rpc_meta.specs.declared.fault.MetaFault.TheVariants.{Wire, NoService, NoMethod, Neither, NoMemory}
use Rattle.rpc_meta.specs.MetaMeaning.{meaning}
use Rattle.rpc_meta.specs.Gathered.{Names, Outcome, Gathered}
use Rattle.rpc_meta.specs.Answer.{meta_fault, answer_as, request_from, response_from, meta_with, meta_from}

pub same_some : {A : Type 0} {a b : A} → Some a ≡ Some b → a ≡ b
same_some e = cc

-- a clause of what is there, from what is known to be there
pub is_that : {A : Type 0} (o : Option A) (a : A) → o ≡ Some a → IfSome o (λ b. b ≡ a)
is_that None a e = tt
is_that (Some b) a e = same_some e

pub none_is : {A : Type 0} (o : Option A) → is_some o ≡ false → o ≡ None
none_is None e = refl
none_is (Some a) e = absurd (cc)

-- with neither a request nor a response it is that fault
pub neither : (g : Gathered) (whole : Result meta.Meta meta.MetaFault) → is_some g.request ≡ false → is_some g.response ≡ false → meta_from g ≡ whole → Err meta.Neither ≡ whole
neither g whole e f w =
    sym (ap (λ (o : Option Names). meta_with (request_from o) (option_map response_from g.response) (meta.int32 g.compress_type) g.correlation_id (meta.int32 g.attachment_size)) (none_is g.request e)
    ∙ ap (λ (o : Option Outcome). meta_with (Ok None) (option_map response_from o) (meta.int32 g.compress_type) g.correlation_id (meta.int32 g.attachment_size)) (none_is g.response f))
    ∙ w

failing : (y : meta.MetaFault) (g : Gathered) (whole : Result meta.Meta meta.MetaFault) → Err y ≡ request_from g.request → meta_from g ≡ whole → Err y ≡ whole
failing y g whole h w =
    ap (λ (r : Result (Option meta.RequestMeta) meta.MetaFault). meta_with r (option_map response_from g.response) (meta.int32 g.compress_type) g.correlation_id (meta.int32 g.attachment_size)) h ∙ w

-- a request's fault is the meta's
pub fails : (x : MetaFault) (g : Gathered) (whole : Result meta.Meta meta.MetaFault) →
    ◌≡◌ {A = Option (Result (Option meta.RequestMeta) meta.MetaFault)} (option_map (λ (f : meta.MetaFault). Err f) (meta_fault x)) (Some (request_from g.request)) → meta_from g ≡ whole →
    answer_as meaning (Err x) ≡ Some whole
fails (Wire fault) g whole h w = ap Some (failing _ g whole (same_some h) w)
fails NoService g whole h w = ap Some (failing meta.NoService g whole (same_some h) w)
fails NoMethod g whole h w = ap Some (failing meta.NoMethod g whole (same_some h) w)
fails Neither g whole h w = ap Some (failing meta.Neither g whole (same_some h) w)
fails NoMemory g whole h w = absurd (cc)

-- a request is there where its fields are
named : (n : Names) (r : Option meta.RequestMeta) → Ok r ≡ meta.names_of n.service n.method n.log_id → is_some r ≡ true
named n r e = by n.service n.method e
  where
    by : (service method : Option (List ℕ)) → Ok r ≡ meta.names_of service method n.log_id → is_some r ≡ true
    by None method e = absurd (cc)
    by (Some service) None e = absurd (cc)
    by (Some service) (Some method) e = some r _ e
      where
        some : (r : Option meta.RequestMeta) (m : meta.RequestMeta) → ◌≡◌ {A = Result (Option meta.RequestMeta) meta.MetaFault} (Ok r) (Ok (Some m)) → is_some r ≡ true
        some (Some r) m e = refl
        some None m e = absurd (cc)

request_there : (o : Option Names) (r : Option meta.RequestMeta) → is_some o ≡ true → Ok r ≡ request_from o → is_some r ≡ true
request_there None r s e = absurd (cc)
request_there (Some n) r s e = named n r e

response_there : (o : Option Outcome) (r : Option meta.ResponseMeta) → is_some o ≡ true → r ≡ option_map response_from o → is_some r ≡ true
response_there None r s e = absurd (cc)
response_there (Some n) r s e = ap is_some e

whole_meta : (request : Option meta.RequestMeta) (response : Option meta.ResponseMeta) (c : ℤ) (i : ℕ) (s : ℤ) → (is_some request ≡ true) ⊎ (is_some response ≡ true) →
    meta_with (Ok request) response c i s ≡ Ok (record { request = request; response = response; compress_type = c; correlation_id = i; attachment_size = s })
whole_meta None None c i s (inl e) = absurd (cc)
whole_meta None None c i s (inr e) = absurd (cc)
whole_meta None (Some r) c i s h = refl
whole_meta (Some q) response c i s h = refl

-- with one of them it is this meta
pub built : (g : Gathered) (request : Option meta.RequestMeta) (response : Option meta.ResponseMeta) (c s : ℤ) (whole : Result meta.Meta meta.MetaFault) →
    (is_some g.request ≡ true) ⊎ (is_some g.response ≡ true) → Ok request ≡ request_from g.request → response ≡ option_map response_from g.response →
    c ≡ meta.int32 g.compress_type → s ≡ meta.int32 g.attachment_size → meta_from g ≡ whole →
    Ok (record { request = request; response = response; compress_type = c; correlation_id = g.correlation_id; attachment_size = s }) ≡ whole
built g request response c s whole there e f p q w =
    sym (whole_meta request response c g.correlation_id s (moved there))
    ∙ ap (λ (r : Result (Option meta.RequestMeta) meta.MetaFault). meta_with r response c g.correlation_id s) e
    ∙ ap (λ (r : Option meta.ResponseMeta). meta_with (request_from g.request) r c g.correlation_id s) f
    ∙ ap (λ (c : ℤ). meta_with (request_from g.request) (option_map response_from g.response) c g.correlation_id s) p
    ∙ ap (λ (s : ℤ). meta_with (request_from g.request) (option_map response_from g.response) (meta.int32 g.compress_type) g.correlation_id s) q
    ∙ w
  where
    moved : (is_some g.request ≡ true) ⊎ (is_some g.response ≡ true) → (is_some request ≡ true) ⊎ (is_some response ≡ true)
    moved (inl h) = inl (request_there g.request request h e)
    moved (inr h) = inr (response_there g.response response h f)
