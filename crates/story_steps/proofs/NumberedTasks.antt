-- Tasks by their numbers: each is one client's, and stands once among them.
use Rattle.std.proofs.Common.{◌≡◌, ◌≢◌, ℕ, zero, suc, inl, inr, List, [], ◌∷◌, get_or, slice_get, None, Some, sym, ap, ◌∙◌, subst}
use Rattle.std.specs.List.{AllByRecursion}
use Rattle.sock_words.specs.declared.plain.Plan.{Plan}
use Rattle.corr_core.specs.declared.marks.Plan.{Plan as IdPlan}
use Rattle.seat_programs.specs.declared.task.Task.{Task}
use Rattle.call_stories.specs.Scenes.{IsTaskOf}
use Rattle.call_stories.specs.CallStories.{undo}
use Rattle.story_steps.proofs.BirthTicks.{in_all}
use Rattle.call_stories.specs.Below.outcome_stories.specs.OperationStories.{In}

abbrev pub AllDistinct : List Task → Type 0
AllDistinct [] = Unit {0}
AllDistinct (t ∷ ts) = AllByRecursion (λ (u : Task). t.number ≢ u.number) ts × AllDistinct ts

pub one_task : (ts : List Task) → AllDistinct ts → (t u : Task) → In t ts → In u ts → t.number ≡ u.number → t ≡ u
one_task [] all t u there here same = absurd there
one_task (v ∷ vs) all t u (inl a) (inl b) same = a ∙ sym b
one_task (v ∷ vs) all t u (inl a) (inr here) same = absurd (in_all (λ (x : Task). v.number ≢ x.number) vs all.0 u here (ap (λ (x : Task). x.number) (sym a) ∙ same))
one_task (v ∷ vs) all t u (inr there) (inl b) same = absurd (in_all (λ (x : Task). v.number ≢ x.number) vs all.0 t there (ap (λ (x : Task). x.number) (sym b) ∙ sym same))
one_task (v ∷ vs) all t u (inr there) (inr here) same = one_task vs all.1 t u there here same

-- the tasks of a client that is there
pub listed_or : (clients : List (List Task)) (c : ℕ) (ts : List Task) → slice_get clients c ≡ Some ts → get_or clients c [] ≡ ts
listed_or [] c ts is = absurd (let z : None ≡ Some ts = is in cc)
listed_or (us ∷ rest) zero ts is = let z : Some us ≡ Some ts = is in cc
listed_or (us ∷ rest) (suc c) ts is = listed_or rest c ts is

module _ (p : Plan) (q : IdPlan) (clients : List (List Task)) (gives : ℕ → List ℕ) where
  -- no two tasks have one number
  pub record AreNumbered : Type 0 where
    pub apart : (c d : ℕ) (t u : Task) → IsTaskOf p q clients gives c t → IsTaskOf p q clients gives d u → t.number ≡ u.number → c ≡ d
    pub distinct : (c : ℕ) → AllDistinct (get_or clients c [])

  pub distinct_undo : (done todo : List Task) → AllDistinct (undo p q clients gives done todo) → AllDistinct todo × ((d t : Task) → In d done → In t todo → d.number ≢ t.number)
  distinct_undo [] todo all = (all, λ d t there here. absurd there)
  distinct_undo (e ∷ done) todo all = let r = distinct_undo done (e ∷ todo) all in (r.0.1, λ d t there here. by_place d t there here r.0.0 r.1)
    where
      by_place : (d t : Task) → In d (e ∷ done) → In t todo → AllByRecursion (λ (u : Task). e.number ≢ u.number) todo → ((d t : Task) → In d done → In t (e ∷ todo) → d.number ≢ t.number) → d.number ≢ t.number
      by_place d t (inl same) here first rest = subst (λ (x : Task). x.number ≢ t.number) (sym same) (in_all (λ (u : Task). e.number ≢ u.number) todo first t here)
      by_place d t (inr there) here first rest = rest d t there (inr here)
