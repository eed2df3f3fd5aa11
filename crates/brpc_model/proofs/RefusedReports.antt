-- Reports that fit with no story whatever: an answer that no link gave, and a drop without a cause.
use Rattle.std.proofs.Common.{◌≡◌, ℕ, zero, suc, ◌<◌, true, false, List, [], ◌∷◌, length, slice_get, slice_index_or, get_or, Some, None, refl, ap, sym, ◌∙◌, subst, arith, lit<, Contains}
use Rattle.std.specs.Prelude.{unwrap_or}
use Rattle.std.specs.List.{AllByRecursion}
use Rattle.sock_words.specs.declared.outcome.Outcome.TheVariants.{Opened, Dropped, Answered, Failed}
use Rattle.brpc_model.specs.Items.{Shape, Open, Client, Send}
use Rattle.brpc_model.specs.Frame.{Frame}
use Rattle.brpc_model.specs.FrameStream.{stream, Rest, Fault}
use Rattle.brpc_model.specs.ReturnedLink.{LinkEnd}
use Rattle.brpc_model.specs.Report.{LinkLine}
use Rattle.brpc_model.specs.Run.{Run, Story, nothing_late, HasOutcome}
use Rattle.brpc_model.specs.LinkFailureCauses.{EndedEarly, GaveItsEnd, GaveAFault, GaveTheMost, TakeFailed, FailingBy, PutFailed, WasFailed, ReadEarly, BornLate}
use Rattle.brpc_model.specs.Attempts.{attempt}
use Rattle.brpc_model.specs.ReportFits.{FitsRun, FitsLink}
use Rattle.brpc_model.proofs.RowFits.{script, call_op, answer, given, end, line}

the_same : {A : Type 0} (x y : A) → Some x ≡ Some y → x ≡ y
the_same x y e = ap (λ o. unwrap_or o x) e

-- what a list of one element contains is that element
the_one : {A : Type 0} (a b : A) → Contains (a ∷ []) b → a ≡ b
the_one a b h = at h.0 h.1 h.2
  where
    at : (k : ℕ) → k < 1 → slice_index_or (a ∷ []) k b ≡ b → a ≡ b
    at zero l e = e
    at (suc k) l e = absurd (omega (arith, l))

-- what holds of each holds of one that is there
of_each : {A : Type 0} (P : A → Type 0) (xs : List A) (x : A) → AllByRecursion P xs → Contains xs x → P x
of_each P xs x all h = at xs all h.0 h.1 h.2
  where
    at : (ys : List _) → AllByRecursion P ys → (k : ℕ) → k < length ys → slice_index_or ys k x ≡ x → P x
    at [] a k l e = absurd (omega (arith, l))
    at (y ∷ ys) a zero l e = subst P e a.0
    at (y ∷ ys) a (suc k) l e = at ys a.1 k (omega (arith, l)) e

-- ## The answer of an echo with another payload

abbrev answered : Story → Run
answered story = record { script = script; report = record { outcomes = Opened 0 0 0 ∷ Answered 1 (104 ∷ 106 ∷ []) [] ∷ []; links = line ∷ [] }; ends = end ∷ []; late = nothing_late; story = story }

only_answer : (n : ℕ) (frame : Frame) → slice_get (stream given).frames n ≡ Some frame → frame.payload ≡ 104 ∷ 105 ∷ []
only_answer zero frame e = ap (λ (f : Frame). f.payload) (sym (the_same answer frame e))
only_answer (suc n) frame e = absurd (cc)

not_answered : (story : Story) → FitsRun (answered story) → ⊥
not_answered story f =
    let c = f.causes 1 call_op (Answered 1 (104 ∷ 106 ∷ []) []) refl refl in
    let same : end ≡ c.3.0.0 = the_one end c.3.0.0 c.3.0.1 in
    let zeroth : 0 ≡ c.0 = ap (λ (e : LinkEnd). e.link) same ∙ c.3.0.2 in
    let gave : given ≡ story.gave c.0 = f.given.0.1 ∙ ap story.gave zeroth in
    let there : slice_get (stream given).frames c.1 ≡ Some c.2 = subst (λ bytes. slice_get (stream bytes).frames c.1 ≡ Some c.2) (sym gave) c.3.1 in
    let payload : 104 ∷ 105 ∷ [] ≡ 104 ∷ 106 ∷ [] = sym (only_answer c.1 c.2 there) ∙ c.5.1 in
    let second : 105 ≡ 106 = ap (λ (xs : List ℕ). get_or xs 1 0) payload in
    omega (arith, second)

-- ## `open a / client / send a 61`, whose send is said to be dropped

abbrev silent_end : LinkEnd
silent_end = record { link = 0; took = Some []; put_faults = 0; gave = Some []; gave_count = 0; take_faults = 0; gave_end = false; closed = Some true; answers = None; takes = None }

abbrev shape : Shape
shape = record { piece = 65536; again = 0; fail = 0; serve = false; end = None }

abbrev drop_line : LinkLine
drop_line = record { order = attempt 1 0 ∷ []; placed = 0; took = [] }

abbrev dropped : Story → Run
dropped story = record {
  script = Open (97 ∷ []) shape ∷ Client ∷ Send (97 ∷ []) (97 ∷ []) ∷ [];
  report = record { outcomes = Opened 0 0 0 ∷ Dropped 0 0 ∷ []; links = drop_line ∷ [] };
  ends = silent_end ∷ [];
  late = nothing_late;
  story = story;
}

no_fail : (story : Story) (i : ℕ) → HasOutcome (dropped story) i Failed → ⊥
no_fail story zero e = let g : Opened 0 0 0 ≡ Failed = the_same (Opened 0 0 0) Failed e in absurd (cc)
no_fail story (suc zero) e = let g : Dropped 0 0 ≡ Failed = the_same (Dropped 0 0) Failed e in absurd (cc)
no_fail story (suc (suc i)) e = absurd (cc)

not_early : (story : Story) → [] ≡ story.gave 0 → EndedEarly (dropped story) silent_end → ⊥
not_early story g (GaveItsEnd e) = absurd (cc)
not_early story g (GaveAFault h) = let e : Rest 0 ≡ Fault h.0 h.1 = ap (λ bytes. (stream bytes).ending) g ∙ h.2 in absurd (cc)
not_early story g (GaveTheMost h) = absurd (omega (arith, h))
not_early story g (TakeFailed h) = absurd (omega (arith, h))

not_failing : (story : Story) → FitsRun (dropped story) → FailingBy (dropped story) (λ i. Unit {0}) silent_end → ⊥
not_failing story f (PutFailed h) = absurd (omega (arith, h))
not_failing story f (WasFailed i c h) = no_fail story i (of_each (λ (x : ℕ × ℕ). HasOutcome (dropped story) x.0 Failed) story.fails (i, 0) f.fails.answered h)
not_failing story f (ReadEarly h) = not_early story f.given.0.1 h
not_failing story f (BornLate h) = absurd (omega (arith, h.1))

not_dropped : (story : Story) → FitsRun (dropped story) → ⊥
not_dropped story f =
    let l : FitsLink (dropped story) 0 drop_line = f.links 0 drop_line refl in
    not_failing story f (subst (λ e. FailingBy (dropped story) (λ i. Unit {0}) e) (sym (the_one silent_end l.end l.given)) (l.fails (lit< tt)))
