-- What the rule of the ids says of each step aside, before it is made.
use Rattle.std.proofs.Common.{◌≡◌, ◌≢◌, ℕ, ◌+◌, ◌<◌, ◌≤◌, List, length, get_or, Option, None, Some, refl, sym, ap, ◌∙◌, arith}
use mathlib.Core.Option as core
use mathlib.Core.Option.{some-injective, some-ne-none}
use lib.ListN.{get_elem?}
use Rattle.sock_words.specs.declared.plain.Plan.{Plan}
use Rattle.corr_core.specs.IdSlotWord.{parts}
use Rattle.corr_core.specs.IdSlotLaw.{Local, SlotLaw, Stands, vacant, retired, claimed, opened, locked, leaving}
use Rattle.corr_core.specs.declared.marks.Plan.{Plan as IdPlan}
use Rattle.seat_programs.specs.id_rule.specs.LawfulIdTable.{tag_index, id_index, call_index, at_index, all_words, local}
use Rattle.sock_message.specs.Asked.{Asked}
use Rattle.seat_programs.specs.declared.task.Task.{Task}
use Rattle.seat_programs.specs.Asides.{Step, ClaimId, MakeId, StoreCall, LoadCall, LoadAt, LoadIdWord, LockId, PostId, UnlockId, EndId, TakeCall, TakeBytes, Taking, Found}
use Rattle.seat_programs.specs.FoundAndChangedAside.{found_in, call_at}
use Rattle.owed_calls.specs.Below.id_runs.specs.HeldIdTokens.{IdView, id_state, MayId}
use Rattle.owed_calls.specs.Below.id_runs.specs.Goes.{FindsId, SoundIds}
use Rattle.owed_calls.specs.Below.id_runs.proofs.AsideStepsKeepRule.{finds_ids, call_there}
use Rattle.call_stories.specs.Scenes.{Scene}
use Rattle.call_stories.specs.Says.{Mark, MayAside}
use Rattle.call_stories.specs.CallStories.{At, word_at, LiesAt, ReadsLaw, IsWordAt, IsTakenWith, KnowsStep}
use Rattle.sock_words.specs.PackedWords.{bit}

-- a slot with an id is taken, and a free one is free
taken_of : {C : Type 0} (l : Local C) → SlotLaw l → (0 < l.word.state → l.tag ≢ 0) × (l.tag ≡ 0 → l.word.state ≡ 0)
taken_of l law = by_stands law.stands
  where
    by_stands : Stands law.b l → (0 < l.word.state → l.tag ≢ 0) × (l.tag ≡ 0 → l.word.state ≡ 0)
    by_stands (vacant none_ tag state first home) = ((λ some_. absurd (omega (arith, some_, state))), (λ e. state))
    by_stands (retired none_ tag state first home) = ((λ some_. absurd (omega (arith, some_, state))), (λ e. state))
    by_stands (claimed seen h tokens tag state first is home) = ((λ some_. absurd (omega (arith, some_, state))), (λ e. state))
    by_stands (opened c none_ state live oldest second home) = let t = live.taken in ((λ some_ e. omega (arith, t, e)), (λ e. absurd (omega (arith, t, e))))
    by_stands (locked c o s h tokens state live begins home holds) = let t = live.taken in ((λ some_ e. omega (arith, t, e)), (λ e. absurd (omega (arith, t, e))))
    by_stands (leaving tokens tag state first home) = ((λ some_. absurd (omega (arith, some_, state))), (λ e. state))

module _ (p : Plan) (q : IdPlan) (clients : List (List Task)) (gives : ℕ → List ℕ) (w : Scene) (us : List IdView) (ids : SoundIds p q w.core us) where
  pub is_sized : length w.core.calls.words ≡ all_words q
  is_sized = ids.rule.sized

  pub are_low : (k : ℕ) → k < q.slots → (word_at w k).first ≤ 67108856
  are_low k inside = let law = ids.rule.slots k inside in let z = law.first_low in omega (arith, z)

  pub taken_with : (i : ℕ) → i < q.slots → IsTakenWith p q clients gives w i
  taken_with i inside = taken_of (local (id_state w.core.calls us) i) (ids.rule.slots i inside)

  is_word : (i found : ℕ) → i < q.slots → core.some (get_or w.core.calls.words (id_index i) 0) ≡ core.some found → IsWordAt p q clients gives w i found
  is_word i found inside e = (inside, ap parts (sym (some-injective (get_or w.core.calls.words (id_index i) 0) found e)))

  lies : (i : ℕ) (x : core.Option (core.Option (Option Asked))) (found : Asked) → get_elem? w.core.calls.homes i ≡ x → call_at x ≡ core.some found → LiesAt w i found
  lies i (core.some (core.some (Some asked))) found at e = at ∙ ap (λ a. core.some (core.some (Some a))) (some-injective asked found e)
  lies i (core.some (core.some None)) found at e = absurd (some-ne-none found (sym e))
  lies i (core.some core.none) found at e = absurd (some-ne-none found (sym e))
  lies i core.none found at e = absurd (some-ne-none found (sym e))

  few : (from n : ℕ) → (parts from).attempt + n + 2 ≤ (parts from).range → (parts from).attempt + n ≤ 6
  few from n room = let eight : (parts from).range ≤ 8 = omega arith in omega (arith, room, eight)

  module _ (ms : List Mark) (j : ℕ) (m : Mark) (at : At ms j m) (reads : ReadsLaw p q clients gives w ms) (u : IdView) (at_view : get_elem? us j ≡ core.some u) where
    pub finds : (step : Step) (t : core.Option Taking) (found : Found step) → found_in step w.core.calls t ≡ core.some found → MayId p q u step → FindsId p q u step found
    finds step t found is may = finds_ids p q w.core.calls ids.plan us ids.rule j u at_view (ids.real j u at_view) (ids.called, ids.placed) ids.homes step t found is may

    pub knows : (step : Step) (t : core.Option Taking) (found : Found step) → found_in step w.core.calls t ≡ core.some found → MayId p q u step → MayAside p q clients gives w m step → KnowsStep p q clients gives w step found
    knows (ClaimId i) t found is may a = (may, sym (some-injective (get_or w.core.calls.words (tag_index i) 0) found is), taken_with i may)
    knows (MakeId i range) t found is may a = let f = finds (MakeId i range) t found is may in (is_word i found may.0 is, f.1, may.2, may.3)
    knows (StoreCall o id) t found is may a = (may.0, may.1)
    knows (LoadCall o) t found is may a = (may, sym (some-injective (get_or w.core.calls.words (call_index w.core.calls.plan o) 0) found is) ∙ ap (λ (r : IdPlan). get_or w.core.calls.words (call_index r o) 0) ids.plan)
    knows (LoadAt o) t found is may a = (may, sym (some-injective (get_or w.core.calls.words (at_index w.core.calls.plan o) 0) found is) ∙ ap (λ (r : IdPlan). get_or w.core.calls.words (at_index r o) 0) ids.plan)
    knows (LoadIdWord i) t found is may a = let f = finds (LoadIdWord i) t found is may in (is_word i found may is, f.2)
    knows (LockId i from) t found is may a = (is_word i found may.0 is, may.1, taken_with i may.0)
    knows (PostId i from e) t found is may a = let f = finds (PostId i from e) t found is may in (is_word i found may.0 is, may.1, may.3, taken_with i may.0, f.2)
    knows (UnlockId i from advance) t found is may a = let x = may.1 in let l = x.7 in let att = l.attempt_is in let rg = l.range_is in let room = x.8 in (is_word i found may.0 is, l.state_is, few from (bit advance) (omega (arith, att, rg, room)), call_there p q w.core.calls ids.plan us ids.rule j u at_view (ids.real j u at_view) i may.0 (Rattle.corr_core.specs.declared.marks.Token.TheVariants.Locked x.0 x.1 x.2 x.5 x.3 x.4 (Rattle.corr_core.specs.declared.marks.Hand.TheVariants.Full x.5), x.5, x.6, refl), (omega (arith, att, rg, room)))
    knows (EndId i) t found is may a = is_word i found may.0 is
    knows (TakeCall i) t found is may a = (may.0, lies i (get_elem? w.core.calls.homes i) found refl is)
    knows (TakeBytes k room) t found is may a = reads.inside j k m at a
    knows _ t found is may a = may.0
