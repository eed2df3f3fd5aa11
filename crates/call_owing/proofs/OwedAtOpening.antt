-- What each seat owes holds where nothing has been done yet.
use Rattle.std.proofs.Common.{◌≡◌, ℕ, ◌+◌, ◌≤◌, inr, true, false, List, [], ◌∷◌, ◌++◌, Option, Some, length, sym, ap, ◌∙◌, subst, arith}
use mathlib.Core.Option.{some}
use lib.ListN.{get_elem?}
use Rattle.sock_model.specs.declared.chain.Heading.{Heading}
use Rattle.sock_model.specs.declared.home.Home.TheVariants.{Message}
use Rattle.corr_core.specs.IdSlotWord.{Parts}
use Rattle.corr_core.specs.declared.marks.Plan.{Plan as IdPlan}
use Rattle.seat_programs.specs.id_rule.specs.LawfulIdTable as ids
use Rattle.seat_programs.specs.Cores.{Core, waiting_at}
use Rattle.call_owing.specs.Owing.{Duty, Free, Owing, Among, duty_tokens}
use Rattle.call_owing.specs.SoundOwing.{id_word_of, retry_tokens, Past, Token, Distinct, Stored, OwingLaw}
use Rattle.sock_words.specs.PackedWords.{id_slot}

-- nobody has a duty, knows an attempt or keeps a retry, no message is at home, and each link that gets a socket has its reader
pub record Begins (q : IdPlan) (life : ℕ → Option ℕ) (calls : List ℕ) (c : Core) (us : List Owing) : Type 0 where
  pub words : ids.Unused q c.calls.words
  pub room : length us ≤ length c.calls.waiting
  pub bare : (j : ℕ) (u : Owing) → get_elem? us j ≡ some u → (u.duty ≡ Free) × (u.knows ≡ []) × (u.dead ≡ false)
  pub waits : (j : ℕ) → waiting_at c.calls.waiting j ≡ []
  pub letters : (r : ℕ) (heading : Heading) (bytes : List ℕ) → get_elem? c.homes r ≡ some (some (Message heading bytes)) → ⊥
  pub tied : (j k : ℕ) (ks : List ℕ) (u : Owing) → get_elem? us j ≡ some u → u.link ≡ k ∷ ks → j ≡ 32 + k
  pub readers : (k s : ℕ) → life k ≡ Some s → (j : ℕ) × (u : Owing) × (get_elem? us j ≡ some u) × (u.link ≡ k ∷ []) × (u.left ≡ calls)

pub begins_law : (q : IdPlan) (life : ℕ → Option ℕ) (calls : List ℕ) (c : Core) (us : List Owing) → Begins q life calls c us → OwingLaw q life calls c us
begins_law q life calls c us b = record {
  room = b.room;
  owed = λ id n inside is. absurd (let z : (id_word_of c (id_slot id)).state ≡ 0 = ap (λ (y : Parts). y.state) (b.words.ids (id_slot id) inside) in let y = is.1 in let w : ⊥ = omega (arith, z, y) in w);
  current = λ id n j t. absurd (no_token id n j t);
  coming = λ id n j t p. no_token id n j t;
  single = λ id n j l t s. absurd (no_token id n j t);
  distinct = λ j u at. subst (λ (x : List (ℕ × ℕ)). Distinct x) (sym (none_at j u at)) tt;
  past = λ id n p. absurd (no_past id n p);
  errors = λ id inside f st. absurd (let z : (id_word_of c (id_slot id)).state ≡ 0 = ap (λ (y : Parts). y.state) (b.words.ids (id_slot id) inside) in let w : ⊥ = omega (arith, z, st) in w);
  letters = λ r heading bytes e some_. absurd (b.letters r heading bytes e);
  ats = λ o low some_. absurd (some_ (b.words.rest (ids.at_index q o) (omega arith)));
  readers = λ k s e. let r = b.readers k s e in (r.0, r.1, r.2, r.3, inr r.4);
  dead = λ j k u at l d. let z : true ≡ false = sym d ∙ (b.bare j u at).2 in absurd cc;
  stored = λ j u at. subst (Stored q calls c us) (sym (b.bare j u at).0) tt;
  tied = b.tied;
  kept = λ j u at k. b.waits j;
}
  where
    none_at : (j : ℕ) (u : Owing) → get_elem? us j ≡ some u → duty_tokens u.duty ++ retry_tokens (waiting_at c.calls.waiting j) ≡ []
    none_at j u at = ap (λ (d : Duty). duty_tokens d ++ retry_tokens (waiting_at c.calls.waiting j)) (b.bare j u at).0 ∙ ap retry_tokens (b.waits j)

    no_token : (id n j : ℕ) → Token c us id n j → ⊥
    no_token id n j t = subst (Among id n) (none_at j t.0 t.1) t.2

    no_past : (id n : ℕ) → Past us id n → ⊥
    no_past id n p = subst (Among id n) (b.bare p.0 p.1 p.2).1 p.3
