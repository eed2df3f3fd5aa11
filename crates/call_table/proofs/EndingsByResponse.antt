-- A compressed response ends its call unread, and one with a code by that.
use Rattle.std.proofs.Common.{◌≡◌, ◌≢◌, ℕ, zero, suc, pos, negsuc, Some, None, true, false, ◌∙◌, ap, refl, sym}
use Rattle.std.specs.Prelude.{ℤ, Option, option_map, IsSome, IfSome}
use Rattle.sock_words.specs.declared.outcome.Outcome.TheVariants as outcomes
use Rattle.sock_message.specs.brpc_model.specs.Meta as model
use Rattle.sock_message.specs.brpc_model.specs.Frame as model_frame
use Rattle.sock_message.specs.brpc_model.specs.ResponseOutcome.{by_code, outcome_by, ending_of}
use Rattle.rpc_meta.specs.MetaMeaning.{response_of}
use Rattle.rpc_meta.specs.declared.meta.ResponseMeta.{ResponseMeta}
use Rattle.prpc_frame.specs.FrameMeaning.{frame_of}
use Rattle.prpc_frame.specs.declared.frame.Frame.{Frame}
use Rattle.call_table.specs.declared.responses.Ending.TheVariants.{Unread, Peer}
use Rattle.call_table.specs.ResponseEndsCall.{told_by_code, told_by, response_ending}

told_z : (f : Frame) (z : ℤ) (r : Option ResponseMeta) → z ≢ pos 0 → Unread ≡ told_by f z r
told_z f (pos zero) r n = absurd (n refl)
told_z f (pos (suc k)) r n = refl
told_z f (negsuc k) r n = refl

outcome_z : (id : ℕ) (f : model_frame.Frame) (z : ℤ) (r : Option model.ResponseMeta) → z ≢ pos 0 → outcomes.CallFailed id 2002 ≡ outcome_by id f z r
outcome_z id f (pos zero) r n = absurd (n refl)
outcome_z id f (pos (suc k)) r n = refl
outcome_z id f (negsuc k) r n = refl

pub compressed_told : (f : Frame) → f.meta.compress_type ≢ pos 0 → Unread ≡ response_ending f
compressed_told f n = told_z f f.meta.compress_type f.meta.response n

pub compressed_outcome : (id : ℕ) (f : Frame) → f.meta.compress_type ≢ pos 0 → outcomes.CallFailed id 2002 ≡ ending_of id (frame_of f)
compressed_outcome id f n = outcome_z id (frame_of f) f.meta.compress_type (option_map response_of f.meta.response) n

code_told : (f : Frame) (code : ℤ) → code ≢ pos 0 → Peer code ≡ told_by_code f code
code_told f (pos zero) n = absurd (n refl)
code_told f (pos (suc k)) n = refl
code_told f (negsuc k) n = refl

code_outcome : (id : ℕ) (f : model_frame.Frame) (code : ℤ) → code ≢ pos 0 → outcomes.Peer id code ≡ by_code id f code
code_outcome id f (pos zero) n = absurd (n refl)
code_outcome id f (pos (suc k)) n = refl
code_outcome id f (negsuc k) n = refl

told_peer : (f : Frame) (z : ℤ) (r : Option ResponseMeta) (code : ℤ) → z ≡ pos 0 → IsSome r → IfSome r (λ m. m.code ≡ code) → code ≢ pos 0 → Peer code ≡ told_by f z r
told_peer f z None code e s h n = let k : false ≡ true = s in cc
told_peer f z (Some m) code e s h n = code_told f code n ∙ ap (λ c. told_by_code f c) (sym h) ∙ ap (λ y. told_by f y (Some m)) (sym e)

outcome_peer : (id : ℕ) (f : model_frame.Frame) (z : ℤ) (r : Option ResponseMeta) (code : ℤ) → z ≡ pos 0 → IsSome r → IfSome r (λ m. m.code ≡ code) → code ≢ pos 0 → outcomes.Peer id code ≡ outcome_by id f z (option_map response_of r)
outcome_peer id f z None code e s h n = let k : false ≡ true = s in cc
outcome_peer id f z (Some m) code e s h n = code_outcome id f code n ∙ ap (λ c. by_code id f c) (sym h) ∙ ap (λ y. outcome_by id f y (option_map response_of (Some m))) (sym e)

pub peer_told : (f : Frame) (code : ℤ) → f.meta.compress_type ≡ pos 0 → IsSome f.meta.response → IfSome f.meta.response (λ r. r.code ≡ code) → code ≢ pos 0 → Peer code ≡ response_ending f
peer_told f code e s h n = told_peer f f.meta.compress_type f.meta.response code e s h n

pub peer_outcome : (id : ℕ) (f : Frame) (code : ℤ) → f.meta.compress_type ≡ pos 0 → IsSome f.meta.response → IfSome f.meta.response (λ r. r.code ≡ code) → code ≢ pos 0 → outcomes.Peer id code ≡ ending_of id (frame_of f)
peer_outcome id f code e s h n = outcome_peer id (frame_of f) f.meta.compress_type f.meta.response code e s h n
