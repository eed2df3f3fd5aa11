-- Where no seat has anything left to do each range has ended.
use Rattle.std.proofs.Common.{◌≡◌, ℕ, zero, suc, ◌<◌, ◌≤◌, List, [], ◌∷◌, ◌++◌, Option, refl, sym, ap, ap₂, ◌∙◌, subst, arith}
use Rattle.std.specs.List.{flat_map}
use mathlib.Core.Option.{some}
use lib.ListN.{get_elem?}
use Rattle.sock_words.specs.declared.plain.Plan.{Plan}
use Rattle.corr_core.specs.IdSlotLaw.{Stands, vacant, retired, claimed, opened, locked, leaving}
use Rattle.corr_core.specs.declared.marks.Plan.{Plan as IdPlan}
use Rattle.seat_programs.specs.id_rule.specs.LawfulIdTable.{local, tokens_in, tokens_of}
use Rattle.seat_programs.specs.Programs.{Rest}
use Rattle.seat_programs.specs.Cores.{Core}
use Rattle.joint_runs.specs.Below.id_runs.specs.HeldIdTokens.{IdView, id_state}
use Rattle.joint_runs.specs.Below.id_runs.specs.Goes.{IdGoesOn, SoundIds}
use Rattle.call_owing.specs.Owing.{Duty, Owing, InList, DutyTo, Among}
use Rattle.call_owing.specs.Owes.{OwesOn}
use Rattle.call_owing.specs.SoundOwing.{id_word_of, Owed, by_seat, by_retry, by_reader, SoundOwing, AllRest, retry_tokens}
use Rattle.joint_runs.specs.Below.program_steps.proofs.TickCases.{elem_there}
use Rattle.sock_words.specs.PackedWords.{call_id, id_slot, id_first}

pub none_held : (i : ℕ) (us : List IdView) → ((j : ℕ) (u : IdView) → get_elem? us j ≡ some u → u.tokens ≡ []) → flat_map (tokens_in i) us ≡ []
none_held i [] all = refl
none_held i (u ∷ us) all = ap₂ (λ x y. x ++ y) (ap (tokens_of i) (all zero u refl)) (none_held i us (λ j. all (suc j)))

module _ (p : Plan) (q : IdPlan) (life : ℕ → Option ℕ) (calls : List ℕ) (c : Core) (us : List Owing) (vs : List IdView) (sound : SoundOwing q life calls c us) (ids : SoundIds p q c vs) (rest : AllRest c) where
  -- each seat's program is Rest, by the marks and by the ids
  owing_rests : (j : ℕ) (u : Owing) → get_elem? us j ≡ some u → OwesOn life u Rest
  owing_rests j u at = let b = elem_there us c.seats j u (sym sound.each) at in subst (OwesOn life u) (rest j b.0 b.1) (sound.seats j b.0 u b.1 at)

  tokens_rest : (j : ℕ) (u : IdView) → get_elem? vs j ≡ some u → u.tokens ≡ []
  tokens_rest j u at = let b = elem_there vs c.seats j u (sym ids.each) at in subst (IdGoesOn p q u) (rest j b.0 b.1) (ids.seats j b.0 u b.1 at)

  no_duty : (id n : ℕ) (d : Duty) → d ≡ Rattle.call_owing.specs.Owing.Free → DutyTo id n d → ⊥
  no_duty id n d e o = subst (DutyTo id n) e o

  nobody : (id n : ℕ) → Owed q life c us id n → ⊥
  nobody id n (by_seat j u at o) = no_duty id n u.duty (owing_rests j u at).0 o
  nobody id n (by_retry j u at w) = subst (λ x. Among id n (retry_tokens x)) (sound.law.kept j u at (owing_rests j u at).2) w
  nobody id n (by_reader o k s j u inside lives is at link left) = subst (InList o) (owing_rests j u at).1 left

  slot_of_call : (i f : ℕ) → f ≤ 67108856 → id_slot (call_id i f) ≡ i
  slot_of_call i f low = omega (arith, low)

  first_of_call : (i f : ℕ) → f ≤ 67108856 → id_first (call_id i f) ≡ f
  first_of_call i f low = omega (arith, low)

  pub all_ended : (i : ℕ) → i < q.slots → (id_word_of c i).state ≡ 0
  all_ended i inside = by_stands ((ids.rule.slots i inside).stands)
    where
      by_stands : Stands ((ids.rule.slots i inside).b) (local (id_state c.calls vs) i) → (id_word_of c i).state ≡ 0
      by_stands (vacant t g s x h) = s
      by_stands (retired t g s x h) = s
      by_stands (claimed seen h t g s x y z) = s
      by_stands (opened d t s l x y h) = let low = (ids.rule.slots i inside).first_low in let slot : id_slot (call_id i (id_word_of c i).first) ≡ i = slot_of_call i (id_word_of c i).first low in
          absurd (nobody (call_id i (id_word_of c i).first) (id_word_of c i).attempt (sound.law.owed (call_id i (id_word_of c i).first) (id_word_of c i).attempt (subst (λ x. x < q.slots) (sym slot) inside)
          (ap (λ x. (id_word_of c x).first) slot ∙ sym (first_of_call i (id_word_of c i).first low), ap (λ x. (id_word_of c x).state) slot ∙ s, ap (λ x. (id_word_of c x).attempt) slot)))
      by_stands (locked d x y h t s l z w v) = let e = sym (none_held i vs tokens_rest) ∙ t in cc
      by_stands (leaving t g s x h) = s
