-- The frames that are cut off what a link gave are frames of its stream, and a response's correlation id is that of an attempt.
use Rattle.std.proofs.Common.{◌≡◌, ℕ, suc, ◌+◌, ◌*◌, ◌<◌, Bool, true, false, List, ◌++◌, map, Some, None, refl, ap, ◌∙◌, arith, eqb-true, ltb-true}
use Rattle.std.specs.Prelude.{Option, option_map, slice_get, IsSome, ◌&&◌, ◌==◌, nat_lt, not}
use Rattle.std.proofs.lemmas.Nat.{div-add-mod'}
use Rattle.std.proofs.lemmas.Option.{slice_get-map}
use Rattle.brpc_model.specs.Frame as model
use Rattle.brpc_model.specs.FrameStream.{Stream, stream, stream_from}
use Rattle.rpc_meta.specs.MetaMeaning.{response_of}
use Rattle.rpc_meta.specs.declared.meta.ResponseMeta.{ResponseMeta}
use Rattle.prpc_frame.specs.StreamCuts.{Cut}
use Rattle.prpc_frame.specs.FrameMeaning.{frame_of}
use Rattle.prpc_frame.specs.declared.frame.Frame.{Frame}
use Rattle.prpc_frame.proofs.StreamCuts.{stream_begins}
use Rattle.corr_core.specs.IdSlotWord.{Parts}
use Rattle.corr_core.specs.IdRangeVersions.{has_version}
use Rattle.call_deeds.specs.Below.RpcReader.Met.{has_response, slot_in, version_in, is_for}
use Rattle.call_told.specs.TellersOfCallEnds.{IsGiven, IsGivenResponse}
use Rattle.call_told.proofs.ListElementsByPlace.{at_front}

responds : (o : Option ResponseMeta) → has_response o ≡ true → IsSome (option_map response_of o)
responds None e = let k : false ≡ true = e in absurd (cc)
responds (Some r) e = refl

-- with more behind them
cut_front : (bytes more left : List ℕ) (fs : List model.Frame) (c : Cut bytes fs left) → (stream (bytes ++ more)).frames ≡ fs ++ (stream_from c.size (left ++ more)).frames
cut_front bytes more left fs c = ap (λ (s : Stream). s.frames) (stream_begins bytes left fs c more)

module _ (links : ℕ) (gave : ℕ → List ℕ) where
  -- a response among the frames that are cut off what link k gave
  pub given_by : (k : ℕ) (bytes more left : List ℕ) (fs : List Frame) → k < links → gave k ≡ bytes ++ more → Cut bytes (map frame_of fs) left → (m : ℕ) (f : Frame) → slice_get fs m ≡ Some f → has_response f.meta.response ≡ true → IsGiven links gave (frame_of f)
  given_by k bytes more left fs lt is c m f at r = record {
    link = k;
    place = m;
    whole = (
      lt,
      ap (λ (l : List ℕ). slice_get (stream l).frames m) is ∙ ap (λ (l : List model.Frame). slice_get l m) (cut_front bytes more left (map frame_of fs) c)
          ∙ at_front (map frame_of fs) _ m (frame_of f) (slice_get-map frame_of fs m ∙ ap (option_map frame_of) at),
    );
    responds = responds f.meta.response r;
  }

  -- ## Versions

  versioned : (slot s first range v c : ℕ) → s ≡ slot → s * 4294967296 + v ≡ c → first < v → v < first + range → (slot * 4294967296 + first < c) × (c < slot * 4294967296 + first + range)
  versioned slot s first range v c e is a b = (omega arith, omega arith)

  pub given_response : (slot : ℕ) (w : Parts) (f : Frame) → IsGiven links gave (frame_of f) → slot_in f ≡ slot → w.first < version_in f → version_in f < w.first + w.range → IsGivenResponse links gave slot w (frame_of f)
  given_response slot w f given e a b =
      let c = versioned slot (slot_in f) w.first w.range (version_in f) f.meta.correlation_id e (div-add-mod' f.meta.correlation_id 4294967296) a b in
      record { given = given; behind = c.0; below = c.1 }

-- what the first of some links gave, and what those behind it gave
pub given_first : (links : ℕ) (gave : ℕ → List ℕ) → 0 < links → (f : model.Frame) → IsGiven 1 (λ k. gave 0) f → IsGiven links gave f
given_first links gave some f g = record { link = 0; place = g.place; whole = (some, g.whole.1); responds = g.responds }

pub given_later : (fewer links : ℕ) (gave : ℕ → List ℕ) → fewer < links → (f : model.Frame) → IsGiven fewer (λ k. gave (suc k)) f → IsGiven links gave f
given_later fewer links gave less f g = record { link = suc g.link; place = g.place; whole = ((let n = g.whole.0 in omega arith), g.whole.1); responds = g.responds }

both : (b c : Bool) → (b && c) ≡ true → (b ≡ true) × (c ≡ true)
both true c e = (refl, e)
both false c e = absurd (cc)

-- what was asked of a kept response
pub for_is : (slot : ℕ) (w : Parts) (f : Frame) → is_for slot w f ≡ true → (slot_in f ≡ slot) × (w.first < version_in f) × (version_in f < w.first + w.range)
for_is slot w f e =
    let a = (both (has_response f.meta.response) ((slot_in f == slot) && has_version (version_in f) w) e).1 in
    let b = both (slot_in f == slot) (has_version (version_in f) w) a in
    let c = (both (not (w.state == 0)) (nat_lt w.first (version_in f) && nat_lt (version_in f) (w.first + w.range)) b.1).1 in
    let d = both (nat_lt w.first (version_in f)) (nat_lt (version_in f) (w.first + w.range)) c in
    (eqb-true (slot_in f) slot b.0, ltb-true w.first (version_in f) d.0, ltb-true (version_in f) (w.first + w.range) d.1)
