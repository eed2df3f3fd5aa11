-- What the takes of a reading gave.
use Rattle.std.proofs.Common.{◌≡◌, ℕ, ◌+◌, Bool, true, false, List, [], ◌∷◌, ◌++◌, length, length-append, append_assoc, append-nil, inl, inr, Some, None, refl, sym, ap, ◌∙◌, subst, arith}
use Rattle.std.specs.Prelude.{Option, IfSome}
use Rattle.std.specs.Io.KnownBytes.{append_known}
use Rattle.std.proofs.lemmas.List.{length-take-le}
use Rattle.corr_core.specs.declared.marks.Plan as ids
use Rattle.sock_io.specs.LinkHalves.{InState, TakeStep, IsTakeCount, taken_count, given_of}
use Rattle.sock_io.specs.declared.link.Take.{Take}
use Rattle.sock_io.specs.declared.link.Take.TheVariants as take_
use Rattle.call_deeds.specs.Below.RpcReader.ReaderBooks.{Books}
use Rattle.call_deeds.specs.Below.RpcReader.ReadingTakeByTake.{Took, Takes, piece_of, bytes_of}
use Rattle.call_deeds.specs.Below.RpcReader.Throwing.{ThrewAway}
use Rattle.call_deeds.specs.Below.RpcReader.ReaderRunFromOpen.{ThrownIf, throws, ReadLink}

-- between these states a reading half gave these bytes
pub record Gains (s t : InState) (bytes : List ℕ) : Type 0 where
  pub known : t.gave_bytes ≡ append_known s.gave_bytes bytes
  pub count : t.gave ≡ s.gave + length bytes

known_none : (o : Option (List ℕ)) → append_known o [] ≡ o
known_none None = refl
known_none (Some x) = ap Some (append-nil x)

known_more : (o : Option (List ℕ)) (a b : List ℕ) → append_known (append_known o a) b ≡ append_known o (a ++ b)
known_more None a b = refl
known_more (Some x) a b = ap Some (append_assoc x a b)

gains_like : (s t : InState) → t.gave_bytes ≡ s.gave_bytes → t.gave ≡ s.gave → Gains s t []
gains_like s t e n = record { known = e ∙ sym (known_none s.gave_bytes); count = omega (arith, n) }

pub gains_none : (s t : InState) → t ≡ s → Gains s t []
gains_none s t e = gains_like s t (ap (λ (i : InState). i.gave_bytes) e) (ap (λ (i : InState). i.gave) e)

pub gains_then : (s m t : InState) (a b : List ℕ) → Gains s m a → Gains m t b → Gains s t (a ++ b)
gains_then s m t a b x y = record {
  known = y.known ∙ ap (λ (o : Option (List ℕ)). append_known o b) x.known ∙ known_more s.gave_bytes a b;
  count = (let c = x.count in let d = y.count in omega (arith, length-append a b));
}

taken_length : (room : List ℕ) (answer : Take) → IsTakeCount room answer → length (given_of room answer) ≡ taken_count answer
taken_length room (take_.Took n) c = length-take-le n room c.1
taken_length room _ c = refl

gains_take : (s t : InState) (room : List ℕ) (answer : Take) → TakeStep s t room answer → Gains s t (given_of room answer)
gains_take s t room answer step = record { known = step.bytes; count = (let a = step.gave in let b = taken_length room answer step.count in omega arith) }

gains_all : (xs : List Took) (s t : InState) → Takes xs s t → Gains s t (bytes_of xs)
gains_all [] s t e = gains_none s t e
gains_all (x ∷ xs) s t h = gains_then s h.0 t (piece_of x) (bytes_of xs) (gains_take s h.0 x.room x.answer h.1) (gains_all xs h.0 t h.2)

threw : (ending : Bool) (total : ℕ) (s t : InState) → ThrewAway ending total s t → (more : List ℕ) × Gains s t more
threw ending total s t (inl e) = ([], gains_none s t e.1)
threw ending total s t (inr h) = (bytes_of (h.earlier ++ h.last ∷ []), gains_all (h.earlier ++ h.last ∷ []) s t h.steps)

pub thrown : (b ending : Bool) (total : ℕ) (s t : InState) → ThrownIf b ending total s t → (more : List ℕ) × Gains s t more
thrown true ending total s t h = threw ending total s t h
thrown false ending total s t e = ([], gains_none s t e)

-- or nothing was thrown away
pub thrown_none : (b ending : Bool) (total : ℕ) (s t : InState) (h : ThrownIf b ending total s t) → b ≡ false → (thrown b ending total s t h).0 ≡ []
unfolding thrown
thrown_none true ending total s t h e = absurd (cc)
thrown_none false ending total s t h e = refl

module _ (q : ids.Plan) (link : ℕ) (calls : List ℕ) (ending short : Bool) (s t : InState) (b b' : Books) (r : ReadLink q link calls ending short s t b b') where
  -- what was cut into frames, and what was thrown away behind it
  abbrev pub met_bytes : List ℕ
  met_bytes = bytes_of (r.read.earlier ++ r.read.last ∷ [])

  abbrev pub rest_bytes : List ℕ
  rest_bytes = (thrown (throws r.how) ending r.total r.between t r.thrown).0

  pub gains_read : Gains s t (met_bytes ++ rest_bytes)
  gains_read = gains_then s r.between t met_bytes rest_bytes (gains_all (r.read.earlier ++ r.read.last ∷ []) s r.between r.read.steps) (thrown (throws r.how) ending r.total r.between t r.thrown).1

-- of a half that gave nothing before
pub gains_tell : (s t : InState) (bytes : List ℕ) → Gains s t bytes → IfSome s.gave_bytes (λ x. x ≡ []) → IfSome t.gave_bytes (λ x. x ≡ bytes)
gains_tell s t bytes g none_ = by s.gave_bytes t.gave_bytes g.known none_
  where
    now : (o : Option (List ℕ)) → IfSome o (λ x. x ≡ []) → IfSome (append_known o bytes) (λ x. x ≡ bytes)
    now None e = tt
    now (Some x) e = ap (λ (l : List ℕ). l ++ bytes) e

    by : (o u : Option (List ℕ)) → u ≡ append_known o bytes → IfSome o (λ x. x ≡ []) → IfSome u (λ x. x ≡ bytes)
    by o u e n = subst (λ (y : Option (List ℕ)). IfSome y (λ x. x ≡ bytes)) (sym e) (now o n)
