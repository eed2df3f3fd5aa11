-- A step leaves what it doesn't touch.
use Rattle.std.proofs.Common.{◌≡◌, ◌≢◌, ℕ, ◌<◌, ◌≤◌, List, [], ◌∷◌, map, sym, refl, ap, ◌∙◌, subst, eqb, eqb-true, arith}
use mathlib.Core.Option.{some, some-injective}
use mathlib.Core.Logic.{dite}
use native.Mathlib.Decide.{ℕ_discrete}
use lib.ListN.{get_elem?}
use Rattle.sock_model.specs.declared.chain.Entry.{Entry}
use Rattle.sock_model.specs.Entries.{ticket, ticket_of, on, uses}
use Rattle.sock_model.specs.declared.chain.Stage.{Stage}
use Rattle.sock_model.specs.declared.chain.Right.{Right}
use Rattle.sock_model.specs.declared.chain.Claim.{Claim}
use Rattle.sock_model.specs.declared.chain.Loose.{Loose}
use Rattle.sock_model.specs.declared.chain.Stage.TheVariants.{ReversesNext}
use Rattle.sock_model.specs.ChainTokens.{Tokens}
use Rattle.sock_model.specs.ChainMemory.{Memory}
use Rattle.sock_model.specs.LinkWritingState.{Counts, Points, OnWalk, InStage, Held, Standing, absent, idle, busy}
use Rattle.sock_model.specs.RequestStates.{FreeRequest, ClaimedRequest, UsedRequest, free_phase, claimed_phase, used_phase, retired_phase, InUse}
use Rattle.sock_model.specs.Chains.{Chains}
use Rattle.chain_steps.proofs.TicketLists.{filter_at, distinct_filter, Distinct}

-- below n nothing changes, or at k alone
abbrev pub Same : {A : Type 0} → ℕ → (ℕ → A) → (ℕ → A) → Type 0
Same n f g = (j : ℕ) → j < n → g j ≡ f j

pub record Changed {A : Type 0} (n : ℕ) (f g : ℕ → A) (k : ℕ) (y : A) : Type 0 where
  pub here : g k ≡ y
  pub else : (j : ℕ) → j < n → j ≢ k → g j ≡ f j

-- two lists of tokens are one
pub one_token : {A : Type 0} (l : List A) (x y : A) → l ≡ x ∷ [] → l ≡ y ∷ [] → x ≡ y
one_token l x y e f = let h : x ∷ [] ≡ y ∷ [] = sym e ∙ f in cc

pub no_token : {A : Type 0} (l : List A) (x : A) → l ≡ x ∷ [] → l ≡ [] → ⊥
no_token l x e f = let h : x ∷ [] ≡ [] = sym e ∙ f in cc

module _ (m m' : Memory) (t t' : Tokens) where
  -- of the entries that didn't give their requests back, the next words and what is loose stay
  abbrev pub Agree : List Entry → ℕ → Type 0
  Agree c freed = (i : ℕ) (e : Entry) → freed ≤ i → get_elem? c i ≡ some e → (m'.next e.request ≡ m.next e.request) × (t'.loose e.request ≡ t.loose e.request)

  -- the same of those that aren't loose
  abbrev pub AgreeStill : List Entry → ℕ → Type 0
  AgreeStill c freed = (i : ℕ) (e : Entry) → freed ≤ i → get_elem? c i ≡ some e → t.loose e.request ≡ [] → (m'.next e.request ≡ m.next e.request) × (t'.loose e.request ≡ t.loose e.request)

  pub stage_frame : (c : List Entry) (n : Counts) (freed places : ℕ) (s : Stage) → AgreeStill c freed → InStage m t c n freed places s → InStage m' t' c n freed places s
  stage_frame c n freed places (ReversesNext top at after before) a h = (
    h.0,
    λ j e q g. let w : OnWalk c n freed places top at after = h.0 in let b = w.some_left in let f = w.all_freed in
        let k = h.1 j e q g in let p = a j e (omega arith) g k.1.1 in (k.0, (p.0 ∙ k.1.0, p.1 ∙ k.1.1)),
  )
  stage_frame c n freed places _ a h = h

  pub points_frame : (c : List Entry) (n : Counts) (i : ℕ) (e : Entry) (x x' : ℕ) (l l' : List Loose) → x' ≡ x → l' ≡ l → Points c n i e x l → Points c n i e x' l'
  points_frame c n i e x x' l l' p q h = subst (λ y. Points c n i e y l') (sym p) (subst (λ z. Points c n i e x z) (sym q) h)

  -- the right stays: what is left to show is its stage, and where the entries point
  pub held_again : (c : List Entry) (freed places : ℕ) (r : Right) (h : Held m t c freed places r) → InStage m' t' c h.counts freed places r.stage
      → ((i : ℕ) (e : Entry) → freed ≤ i → get_elem? c i ≡ some e → Points c h.counts i e (m'.next e.request) (t'.loose e.request)) → Held m' t' c freed places r
  held_again c freed places r h stage points = record { counts = h.counts; some_noted = h.some_noted; fits = h.fits; turned_is = h.turned_is; noted_is = h.noted_is; last_is = h.last_is; stage_is = stage; points = points }

  pub held_frame : (c : List Entry) (freed places : ℕ) (r : Right) → Agree c freed → Held m t c freed places r → Held m' t' c freed places r
  held_frame c freed places r a h = held_again c freed places r h (stage_frame c h.counts freed places r.stage (λ i e late g still. a i e late g) h.stage_is)
      (λ i e late g. let s = a i e late g in points_frame c h.counts i e (m.next e.request) (m'.next e.request) (t.loose e.request) (t'.loose e.request) s.0 s.1 (h.points i e late g))

  pub standing_frame : (k : ℕ) (c : List Entry) (freed places : ℕ) → m'.head k ≡ m.head k → t'.rights k ≡ t.rights k → Agree c freed → Standing m t k c freed places → Standing m' t' k c freed places
  standing_frame k c freed places hd rt a (absent h r f p) = absent (hd ∙ h) (rt ∙ r) f p
  standing_frame k c freed places hd rt a (idle h r f p) = idle (hd ∙ h) (rt ∙ r) f p
  standing_frame k c freed places hd rt a (busy r h s held) = busy r (hd ∙ h) (rt ∙ s) (held_frame c freed places r a held)

  -- the entries of request r that didn't give it back still stand where they stood
  abbrev pub Keep : List Entry → (ℕ → ℕ) → List Entry → (ℕ → ℕ) → ℕ → Type 0
  Keep log freed log' freed' r = (k i : ℕ) (e : Entry) → freed k ≤ i → get_elem? (on k log) i ≡ some e → e.request ≡ r → (freed' k ≤ i) × (get_elem? (on k log') i ≡ some e)

  pub in_use_frame : (log log' : List Entry) (freed freed' : ℕ → ℕ) (r : ℕ) → ((c : Claim) → t.claims r ≡ c ∷ [] → m'.next r ≡ m.next r) → m'.request r ≡ m.request r → t'.claims r ≡ t.claims r → (t.loose r ≡ [] → t'.loose r ≡ [])
      → uses r log' ≡ uses r log → Keep log freed log' freed' r → InUse m t log freed r → InUse m' t' log' freed' r
  in_use_frame log log' freed freed' r nx rq cl lo us keep h =
      let g = h.generation in let n = h.times in
      let free : FreeRequest m t r g n → FreeRequest m' t' r g n = λ u. record { word = rq ∙ u.word; used = u.used; unclaimed = cl ∙ u.unclaimed; still = lo u.still } in
      let claimed : ClaimedRequest m t r g n → ClaimedRequest m' t' r g n = λ u. record { claim = u.claim; word = rq ∙ u.word; used = u.used; claimed = cl ∙ u.claimed; generation_is = u.generation_is; is_ready = λ y. nx u.claim u.claimed ∙ u.is_ready y; still = lo u.still } in
      let used : UsedRequest m t log freed r g n → UsedRequest m' t' log' freed' r g n = λ u. let k = keep u.link u.place u.entry u.late u.here u.request_is in record { link = u.link; place = u.place; entry = u.entry; late = k.0; here = k.1; used = u.used; request_is = u.request_is; generation_is = u.generation_is } in
      record {
        generation = g;
        times = n;
        small = h.small;
        each_once = ap (λ l. map (λ (e : Entry). e.generation) l) us ∙ h.each_once;
        phase = elim h.phase [
          | free_phase u ↦ free_phase (free u)
          | claimed_phase u ↦ claimed_phase (claimed u)
          | used_phase u ↦ used_phase (used u)
          | retired_phase u ↦ retired_phase record { word = rq ∙ u.word; used = u.used; unclaimed = cl ∙ u.unclaimed; still = lo u.still; last = u.last }
        ];
      }

-- what holds of one state
module _ {links requests : ℕ} {m : Memory} {t : Tokens} {log : List Entry} {freed places : ℕ → ℕ} (s : Chains links requests m t log freed places) where
  pub on_distinct : (k : ℕ) → Distinct ticket (on k log)
  on_distinct k = distinct_filter ticket (λ (e : Entry). eqb e.link k) log s.differ

  -- an entry of a chain is an entry of the log, and of that link
  pub in_log : (k i : ℕ) (e : Entry) → get_elem? (on k log) i ≡ some e → (q : ℕ) × (get_elem? log q ≡ some e) × (e.link ≡ k)
  in_log k i e h = let a = filter_at (λ (e : Entry). eqb e.link k) log i e h in (a.0, a.1, eqb-true e.link k a.2)

  pub in_size : (k i : ℕ) (e : Entry) → get_elem? (on k log) i ≡ some e → (k < links) × (e.request < requests) × (e.generation < 140737488355328)
  in_size k i e h = let a = in_log k i e h in let z = s.sized a.0 e a.1 in (subst (λ x. x < links) a.2 z.0, z.1, z.2)

  -- two entries that have the same request taken are one
  pub live_same : (k i : ℕ) (d : Entry) (j l : ℕ) (e : Entry) → freed k ≤ i → get_elem? (on k log) i ≡ some d → freed j ≤ l → get_elem? (on j log) l ≡ some e → d.request ≡ e.request → (k ≡ j) × (i ≡ l)
  live_same k i d j l e hd gd he ge r =
      let wd = (s.live k i d hd gd).0 in let we = (s.live j l e he ge).0 in
      let g : d.generation ≡ e.generation = omega (arith, ap m.request r) in
      let tk : ticket d ≡ ticket e = λ x. ticket_of (r x) (g x) in
      let a = in_log k i d gd in let b = in_log j l e ge in
      let q : a.0 ≡ b.0 = s.differ a.0 b.0 d e a.1 b.1 tk in
      let de : d ≡ e = some-injective d e (sym a.1 ∙ (ap (λ x. get_elem? log x) q ∙ b.1)) in
      let kj : k ≡ j = sym a.2 ∙ (ap (λ (x : Entry). x.link) de ∙ b.2) in
      (kj, on_distinct j i l d e (subst (λ x. get_elem? (on x log) i ≡ some d) kj gd) ge tk)

-- a step that leaves all words and tokens of the chain
pub chains_frame : {links requests : ℕ} {m m' : Memory} {t t' : Tokens} {log : List Entry} {freed places : ℕ → ℕ} → Chains links requests m t log freed places
    → Same links m.head m'.head → Same requests m.next m'.next → Same requests m.request m'.request → Same links t.rights t'.rights → Same requests t.claims t'.claims → Same requests t.loose t'.loose
    → Chains links requests m' t' log freed places
chains_frame {links} {requests} {m} {m'} {t} {t'} {log} {freed} {places} s hd nx rq rt cl lo = record {
  chained = s.chained;
  differ = s.differ;
  sized = s.sized;
  standing = λ j jl. standing_frame m m' t t' j (on j log) (freed j) (places j) (hd j jl) (rt j jl) (λ i d late g. let z = in_size s j i d g in (nx d.request z.1, lo d.request z.1)) (s.standing j jl);
  live = λ j i d late g. let z = in_size s j i d g in let w = s.live j i d late g in (rq d.request z.1 ∙ w.0, cl d.request z.1 ∙ w.1);
  in_use = λ q ql. in_use_frame m m' t t' log log freed freed q (λ y z. nx q ql) (rq q ql) (cl q ql) (λ z. lo q ql ∙ z) refl (λ j i d late g is. (late, g)) (s.in_use q ql);
}

-- the right of link k that becomes another one, and the others
pub from_same : (t t' : Tokens) (links k : ℕ) (r r' : Right) → t.rights k ≡ r ∷ [] → Changed links t.rights t'.rights k (r' ∷ []) → r'.clean ≡ r.clean → r'.sent ≡ r.sent → r'.places ≡ r.places
    → (j : ℕ) (y : Right) → j < links → t'.rights j ≡ y ∷ [] → (x : Right) × (t.rights j ≡ x ∷ []) × (y.clean ≡ x.clean) × (y.sent ≡ x.sent) × (y.places ≡ x.places)
from_same t t' links k r r' has rt clean sent places j y jl h = dite (ℕ_discrete j k)
    (λ same. let q : r' ≡ y = one_token (t'.rights k) r' y rt.here (ap t'.rights (sym same) ∙ h) in
    (r, ap t.rights same ∙ has, ap (λ (z : Right). z.clean) (sym q) ∙ clean, ap (λ (z : Right). z.sent) (sym q) ∙ sent, ap (λ (z : Right). z.places) (sym q) ∙ places))
    (λ ne. (y, sym (rt.else j jl ne) ∙ h, refl, refl, refl))
