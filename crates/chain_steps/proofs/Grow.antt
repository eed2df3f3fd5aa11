-- C2: the log grows by the entry whose ticket goes into the head.
use Rattle.std.proofs.Common.{◌≡◌, ◌≢◌, ℕ, zero, suc, ◌+◌, ◌*◌, ◌<◌, ◌≤◌, true, eqb, eq-eqb, List, [], ◌∷◌, ◌++◌, length, length-append, map, sym, refl, ap, ◌∙◌, subst, inr, arith}
use Rattle.std.proofs.lemmas.List.{map-append}
use mathlib.Core.Logic.{dite}
use mathlib.Core.Option.{some, some-injective, some-ne-none}
use native.Mathlib.Decide.{ℕ_discrete}
use lib.ListN.{get_elem?}
use Rattle.sock_model.specs.declared.chain.Entry.{Entry}
use Rattle.sock_model.specs.Entries.{ticket, on, uses, nth}
use Rattle.sock_model.specs.declared.chain.Stage.{Stage}
use Rattle.sock_model.specs.declared.chain.Right.{Right}
use Rattle.sock_model.specs.declared.chain.Claim.{Claim}
use Rattle.sock_model.specs.declared.chain.Loose.{Loose}
use Rattle.sock_model.specs.declared.chain.Stage.TheVariants.{Writes, Placed, Passes, Empties, Reversing, ReversesNext}
use Rattle.sock_model.specs.ChainTokens.{Tokens}
use Rattle.sock_model.specs.ChainMemory.{Memory}
use Rattle.sock_model.specs.LinkWritingState.{Counts, loose_of, Waits, Points, OnWalk, InStage, Held, Standing, absent, idle, busy}
use Rattle.sock_model.specs.RequestStates.{ClaimedRequest, InUse, used_phase}
use Rattle.sock_model.specs.Chains.{Chains}
use Rattle.chain_steps.proofs.TicketLists.{at_snoc, old, new, at_last, at_longer, at_length, on_hit, on_miss, uses_hit, uses_miss, nth_snoc, nth_new, nth_some, filter_in, each_below}
use Rattle.chain_steps.proofs.UntouchedByChainSteps.{Same, Changed, one_token, Agree, in_size, held_frame, standing_frame, in_use_frame}
use Rattle.chain_steps.proofs.Claims.{claim_of, claim_other}
use Rattle.sock_model.specs.sock_words.specs.PackedWords.{IDLE}

-- a held chain with one entry more, which waits
walk_grow : (c : List Entry) (x : Entry) (n : Counts) (freed places top at after : ℕ) → freed ≤ n.noted → n.noted ≤ n.left → n.left ≤ n.top → n.top ≤ length c → OnWalk c n freed places top at after → OnWalk (c ++ x ∷ []) n freed places top at after
walk_grow c x n freed places top at after f a b l h = record {
  all_freed = h.all_freed;
  some_left = h.some_left;
  top_is = nth_snoc c x n.top l ∙ h.top_is;
  at_is = nth_snoc c x n.left (omega arith) ∙ h.at_is;
  after_is = λ k. h.after_is k ∙ sym (nth_snoc c x (suc n.left) (omega arith));
  no_after = h.no_after;
}

stage_grow : (m : Memory) (t : Tokens) (c : List Entry) (x : Entry) (n : Counts) (freed places : ℕ) (s : Stage) → freed ≤ n.noted → n.noted ≤ n.left → n.left ≤ n.top → n.top ≤ length c → InStage m t c n freed places s → InStage m t (c ++ x ∷ []) n freed places s
stage_grow m t c x n freed places (Writes now) f a b l h = (h.0, h.1, h.2, nth_snoc c x (suc freed) (let k = h.2 in omega arith) ∙ h.3)
stage_grow m t c x n freed places (Placed now) f a b l h = (h.0, h.1, h.2, nth_snoc c x (suc freed) (let k = h.2 in omega arith) ∙ h.3)
stage_grow m t c x n freed places (Passes now next) f a b l h = (h.0, h.1, h.2, nth_snoc c x (suc freed) (let k = h.2 in omega arith) ∙ h.3, nth_snoc c x (suc (suc freed)) (let k = h.2 in omega arith) ∙ h.4)
stage_grow m t c x n freed places Empties f a b l h = h
stage_grow m t c x n freed places (Reversing top at after) f a b l h = walk_grow c x n freed places top at after f a b l h
stage_grow m t c x n freed places (ReversesNext top at after before) f a b l h = (walk_grow c x n freed places top at after f a b l h.0, λ j e q g. elim (at_snoc c x j e g) [ old o s ↦ h.1 j e q o | new o s ↦ absurd (omega arith) ])

points_grow : (c : List Entry) (a : Entry) (n : Counts) (i : ℕ) (e : Entry) (x : ℕ) (l : List Loose) → n.noted ≤ length c → n.top ≤ length c → Points c n i e x l → Points (c ++ a ∷ []) n i e x l
points_grow c a n i e x l b d h = record {
  written = λ k. ((h.written k).0, λ z. (h.written k).1 z ∙ sym (nth_snoc c a (suc (suc i)) (omega arith)));
  unturned = h.unturned;
  turned = λ u v. ((h.turned u v).0, (λ z. (h.turned u v).1 z ∙ sym (nth_snoc c a (suc (suc i)) (omega arith))), (h.turned u v).2);
  newer = h.newer;
}

held_grow : (m : Memory) (t : Tokens) (c : List Entry) (a : Entry) (freed places : ℕ) (r : Right) → Held m t c freed places r → Waits a (m.next a.request) (t.loose a.request) → Held m t (c ++ a ∷ []) freed places r
held_grow m t c a freed places r h w = let n = h.counts in let f = h.fits in record {
  counts = n;
  some_noted = h.some_noted;
  fits = (f.0, f.1, f.2, omega (arith, length-append c (a ∷ [])));
  turned_is = h.turned_is;
  noted_is = h.noted_is;
  last_is = nth_snoc c a n.noted (omega arith) ∙ h.last_is;
  stage_is = stage_grow m t c a n freed places r.stage f.0 f.1 f.2 f.3 h.stage_is;
  points = λ i e late g. elim (at_snoc c a i e g) [
    | old o s ↦ points_grow c a n i e (m.next e.request) (t.loose e.request) (omega arith) f.3 (h.points i e late o)
    | new o s ↦ record {
      written = λ k. absurd (omega arith);
      unturned = λ k l. absurd (omega arith);
      turned = λ k l. absurd (omega arith);
      newer = λ k. subst (λ (y : Entry). Waits y (m.next y.request) (t.loose y.request)) s w;
    }
  ];
}

-- the first entry of a head that was idle, with the right to write it
held_first : (m : Memory) (t : Tokens) (c : List Entry) (a : Entry) (freed places : ℕ) (r : Right) → freed ≡ length c → places ≡ freed → r.last ≡ ticket a → r.turned ≡ 0 → r.noted ≡ suc places → r.stage ≡ Writes (ticket a) → t.loose a.request ≡ [] → Held m t (c ++ a ∷ []) freed places r
held_first m t c a freed places r f p last none_turned noted stage still = let n : Counts = record { noted = suc (length c); left = suc (length c); top = suc (length c) } in
    let one : length (c ++ a ∷ []) ≡ suc (length c) = omega (arith, length-append c (a ∷ [])) in record {
      counts = n;
      some_noted = omega arith;
      fits = (omega arith, omega arith, omega arith, omega arith);
      turned_is = omega arith;
      noted_is = omega arith;
      last_is = nth_new c a ∙ sym last;
      stage_is = subst (InStage m t (c ++ a ∷ []) n freed places) (sym stage) ((refl, refl), p, omega arith, ap (λ y. nth (c ++ a ∷ []) (suc y)) f ∙ nth_new c a);
      points = λ i e late g. elim (at_snoc c a i e g) [
        | old o s ↦ absurd (omega arith)
        | new o s ↦ record {
          written = λ k. (ap (λ (y : Entry). t.loose y.request) (sym s) ∙ still, λ z. absurd (omega arith));
          unturned = λ k l. absurd (omega arith);
          turned = λ k l. absurd (omega arith);
          newer = λ k. absurd (omega arith);
        }
      ];
    }

ready_is : (c d : Claim) → c ≡ d → c.ready ≡ true → d.ready ≡ true
ready_is c d e h = ap (λ (y : Claim). y.ready) (sym e) ∙ h

-- an entry of a chain of the longer log stood there before, or is the new one
pub data Comes (log : List Entry) (k : ℕ) (e : Entry) (j i : ℕ) (d : Entry) : Type 0 where
  earlier : get_elem? (on j log) i ≡ some d → Comes log k e j i d
  latest : j ≡ k → i ≡ length (on k log) → e ≡ d → Comes log k e j i d

-- the entry e is made by the claim c, and stands behind all others of link k
pub record IsNext (links requests : ℕ) (m : Memory) (t : Tokens) (log : List Entry) (k : ℕ) (c : Claim) (e : Entry) : Type 0 where
  pub link_in : k < links
  pub request_in : e.request < requests
  pub narrow : requests ≤ 65535
  pub claimed : t.claims e.request ≡ c ∷ []
  pub is_ready : c.ready ≡ true
  pub link_is : e.link ≡ k
  pub generation_is : e.generation ≡ c.generation
  pub before_is : e.before ≡ nth (on k log) (length (on k log))

module _ {links requests : ℕ} {m : Memory} {t : Tokens} {log : List Entry} {freed places : ℕ → ℕ} (s : Chains links requests m t log freed places) (k : ℕ) (c : Claim) (e : Entry) (x : IsNext links requests m t log k c e) where
  use_r : InUse m t log freed e.request
  use_r = s.in_use e.request x.request_in

  is_claimed : ClaimedRequest m t e.request use_r.generation use_r.times
  is_claimed = claim_of s e.request c use_r x.claimed

  generation : e.generation ≡ use_r.generation
  generation = x.generation_is ∙ (ap (λ (y : Claim). y.generation) (one_token (t.claims e.request) c is_claimed.claim x.claimed is_claimed.claimed) ∙ is_claimed.generation_is)

  fresh : (p : ℕ) (d : Entry) → get_elem? log p ≡ some d → ticket d ≢ ticket e
  fresh p d g q = let z = s.sized p d g in let b = x.request_in in let w = x.narrow in
      let rq : d.request ≡ e.request = omega arith in
      let gn : d.generation ≡ e.generation = omega arith in
      let i = filter_in (λ (y : Entry). eqb y.request e.request) log p d g (eq-eqb d.request e.request rq) in
      let h : d.generation < use_r.times = each_below (λ (y : Entry). y.generation) (uses e.request log) use_r.times i.0 d use_r.each_once i.1 in
      let u = is_claimed.used in let v = generation in omega arith

  pub comes : (j i : ℕ) (d : Entry) → get_elem? (on j (log ++ e ∷ [])) i ≡ some d → Comes log k e j i d
  comes j i d g = dite (ℕ_discrete j k)
      (λ same. let g' : get_elem? (on k log ++ e ∷ []) i ≡ some d = subst (λ l. get_elem? l i ≡ some d) (ap (λ y. on y (log ++ e ∷ [])) same ∙ on_hit k log e x.link_is) g in
      elim (at_snoc (on k log) e i d g') [ old o z ↦ earlier (subst (λ y. get_elem? (on y log) i ≡ some d) (sym same) o) | new o z ↦ latest same o z ])
      (λ ne. earlier (subst (λ l. get_elem? l i ≡ some d) (on_miss j log e (λ y. ne (sym y ∙ x.link_is))) g))

  stays : (j i : ℕ) (d : Entry) → get_elem? (on j log) i ≡ some d → get_elem? (on j (log ++ e ∷ [])) i ≡ some d
  stays j i d g = dite (ℕ_discrete j k)
      (λ same. subst (λ l. get_elem? l i ≡ some d) (sym (on_hit j log e (x.link_is ∙ sym same))) (at_longer (on j log) (e ∷ []) i d g))
      (λ ne. subst (λ l. get_elem? l i ≡ some d) (sym (on_miss j log e (λ y. ne (sym y ∙ x.link_is)))) g)

  nth_stays : (j n : ℕ) → n ≤ length (on j log) → nth (on j (log ++ e ∷ [])) n ≡ nth (on j log) n
  nth_stays j n h = dite (ℕ_discrete j k)
      (λ same. ap (λ l. nth l n) (on_hit j log e (x.link_is ∙ sym same)) ∙ nth_snoc (on j log) e n h)
      (λ ne. ap (λ l. nth l n) (on_miss j log e (λ y. ne (sym y ∙ x.link_is))))

  module _ (m' : Memory) (t' : Tokens) where
    -- what both cases of the exchange have in common: all but the links
    exchanges : freed k ≤ length (on k log)
        → ((j : ℕ) → j < links → Standing m' t' j (on j (log ++ e ∷ [])) (freed j) (places j))
        → Same requests m.next m'.next → Same requests m.request m'.request
        → Changed requests t.claims t'.claims e.request [] → ((q : ℕ) → q < requests → q ≢ e.request → t'.loose q ≡ t.loose q)
        → Chains links requests m' t' (log ++ e ∷ []) freed places
    exchanges some_freed standing nx rq cl lo = record {
      chained = λ j i d g. elim (comes j i d g) [
        | earlier o ↦ s.chained j i d o ∙ sym (nth_stays j i (let z = at_length (on j log) i d o in omega arith))
        | latest same o z ↦ ap (λ (y : Entry). y.before) (sym z) ∙ (x.before_is ∙ (λ w. nth (on (sym same w) log) (sym o w)) ∙ sym (nth_stays j i (subst (λ y. i ≤ length (on y log)) (sym same) (omega arith))))
      ];
      differ = λ p q d f gp gq same. elim (at_snoc log e p d gp) [
        | old o z ↦ elim (at_snoc log e q f gq) [
          | old o' z' ↦ s.differ p q d f o o' same
          | new o' z' ↦ absurd (fresh p d o (same ∙ ap ticket (sym z')))
        ]
        | new o z ↦ elim (at_snoc log e q f gq) [
          | old o' z' ↦ absurd (fresh q f o' (sym same ∙ ap ticket (sym z)))
          | new o' z' ↦ o ∙ sym o'
        ]
      ];
      sized = λ p d g. elim (at_snoc log e p d g) [
        | old o z ↦ s.sized p d o
        | new o z ↦ subst (λ (y : Entry). (y.link < links) × (y.request < requests) × (y.generation < 140737488355328)) z
            (subst (λ y. y < links) (sym x.link_is) x.link_in, x.request_in, subst (λ y. y < 140737488355328) (sym generation) use_r.small)
      ];
      standing = standing;
      live = λ j i d late g. elim (comes j i d g) [
        | earlier o ↦ (let w = s.live j i d late o in let z = in_size s j i d o in (rq d.request z.1 ∙ w.0, cl.else d.request z.1 (claim_other s e.request c x.claimed j i d late o) ∙ w.1))
        | latest same o z ↦ subst (λ (y : Entry). (m'.request y.request ≡ 2 * y.generation + 1) × (t'.claims y.request ≡ [])) z
            (rq e.request x.request_in ∙ (is_claimed.word ∙ ap (λ y. 2 * y + 1) (sym generation)), cl.here)
      ];
      in_use = λ q ql. dite (ℕ_discrete q e.request)
          (λ same. subst (λ y. InUse m' t' (log ++ e ∷ []) freed y) (sym same) record {
            generation = use_r.generation;
            times = suc use_r.times;
            small = use_r.small;
            each_once = ap (map (λ (y : Entry). y.generation)) (uses_hit e.request log e refl) ∙ (map-append (λ (y : Entry). y.generation) (uses e.request log) (e ∷ []) ∙ (λ w. use_r.each_once w ++ (generation ∙ sym is_claimed.used) w ∷ []));
            phase = used_phase (record {
              link = k;
              place = length (on k log);
              entry = e;
              late = some_freed;
              here = subst (λ l. get_elem? l (length (on k log)) ≡ some e) (sym (on_hit k log e x.link_is)) (at_last (on k log) e);
              used = ap suc is_claimed.used;
              request_is = refl;
              generation_is = generation;
            });
          })
          (λ ne. let unused : uses q (log ++ e ∷ []) ≡ uses q log = uses_miss q log e (λ y. ne (sym y)) in
          in_use_frame m m' t t' log (log ++ e ∷ []) freed freed q (λ y z. nx q ql) (rq q ql) (cl.else q ql ne) (λ z. lo q ql ne ∙ z) unused (λ j i d late g is. (late, stays j i d g)) (s.in_use q ql));
    }

    -- the other links stand as before
    others : Same requests m.next m'.next → ((q : ℕ) → q < requests → q ≢ e.request → t'.loose q ≡ t.loose q)
        → (j : ℕ) → j < links → j ≢ k → m'.head j ≡ m.head j → t'.rights j ≡ t.rights j → Standing m' t' j (on j (log ++ e ∷ [])) (freed j) (places j)
    others nx lo j jl ne hd rt = subst (λ l. Standing m' t' j l (freed j) (places j)) (sym (on_miss j log e (λ y. ne (sym y ∙ x.link_is))))
        (standing_frame m m' t t' j (on j log) (freed j) (places j) hd rt (λ i d late g. let z = in_size s j i d g in (nx d.request z.1, lo d.request z.1 (claim_other s e.request c x.claimed j i d late g))) (s.standing j jl))

    -- a busy head was found: the entry is loose
    pub queues : (y : Right) → m.head k ≡ some (nth (on k log) (length (on k log))) → t.rights k ≡ y ∷ [] → Held m t (on k log) (freed k) (places k) y
        → Changed links m.head m'.head k (some (ticket e)) → Same requests m.next m'.next → Same requests m.request m'.request
        → Same links t.rights t'.rights → Changed requests t.claims t'.claims e.request [] → Changed requests t.loose t'.loose e.request (loose_of e ∷ [])
        → Chains links requests m' t' (log ++ e ∷ []) freed places
    queues y head right held hd nx rq rt cl lo =
        let c' = on k log in let f = held.fits in
        let agree : Agree m m' t t' c' (freed k) = λ i d late g. let z = in_size s k i d g in (nx d.request z.1, lo.else d.request z.1 (claim_other s e.request c x.claimed k i d late g)) in
        let grown : Held m' t' (c' ++ e ∷ []) (freed k) (places k) y = held_grow m' t' c' e (freed k) (places k) y (held_frame m m' t t' c' (freed k) (places k) y agree held) (inr (nx e.request x.request_in ∙ is_claimed.is_ready (ready_is c is_claimed.claim (one_token (t.claims e.request) c is_claimed.claim x.claimed is_claimed.claimed) x.is_ready), lo.here)) in
        let more : suc (length c') ≡ length (c' ++ e ∷ []) = omega (arith, length-append c' (e ∷ [])) in
        let now : Standing m' t' k (c' ++ e ∷ []) (freed k) (places k) = busy y (hd.here ∙ ap (λ n. some n) (sym (nth_new c' e) ∙ ap (λ n. nth (c' ++ e ∷ []) n) more)) (rt k x.link_in ∙ right) grown in
        exchanges (omega arith)
        (λ j jl. dite (ℕ_discrete j k) (λ same. subst (λ q. Standing m' t' q (on q (log ++ e ∷ [])) (freed q) (places q)) (sym same) (subst (λ l. Standing m' t' k l (freed k) (places k)) (sym (on_hit k log e x.link_is)) now))
        (λ ne. others nx (λ q ql. lo.else q ql) j jl ne (hd.else j jl ne) (rt j jl)))
        nx rq cl (λ q ql. lo.else q ql)

    -- an idle head was found: the entry has the right
    pub begins : (y : Right) → freed k ≡ length (on k log) → places k ≡ freed k → y.last ≡ ticket e → y.turned ≡ 0 → y.noted ≡ suc (places k) → y.stage ≡ Writes (ticket e)
        → Changed links m.head m'.head k (some (ticket e)) → Same requests m.next m'.next → Same requests m.request m'.request
        → Changed links t.rights t'.rights k (y ∷ []) → Changed requests t.claims t'.claims e.request [] → Same requests t.loose t'.loose
        → Chains links requests m' t' (log ++ e ∷ []) freed places
    begins y done all last none_turned noted stage hd nx rq rt cl lo =
        let c' = on k log in
        let more : suc (length c') ≡ length (c' ++ e ∷ []) = omega (arith, length-append c' (e ∷ [])) in
        let first : Held m' t' (c' ++ e ∷ []) (freed k) (places k) y = held_first m' t' c' e (freed k) (places k) y done all last none_turned noted stage (lo e.request x.request_in ∙ is_claimed.still) in
        let now : Standing m' t' k (c' ++ e ∷ []) (freed k) (places k) = busy y (hd.here ∙ ap (λ n. some n) (sym (nth_new c' e) ∙ ap (λ n. nth (c' ++ e ∷ []) n) more)) rt.here first in
        exchanges (omega arith)
        (λ j jl. dite (ℕ_discrete j k) (λ same. subst (λ q. Standing m' t' q (on q (log ++ e ∷ [])) (freed q) (places q)) (sym same) (subst (λ l. Standing m' t' k l (freed k) (places k)) (sym (on_hit k log e x.link_is)) now))
        (λ ne. others nx (λ q ql other. lo q ql) j jl ne (hd.else j jl ne) (rt.else j jl ne)))
        nx rq cl (λ q ql other. lo q ql)

-- what a number found in the head tells
pub record IsIdle (t : Tokens) (k : ℕ) (c : List Entry) (freed places w : ℕ) : Type 0 where
  pub last_is : w ≡ IDLE + nth c (length c)
  pub rights : t.rights k ≡ []
  pub all_freed : freed ≡ length c
  pub all_placed : places ≡ freed

pub record IsBusy (m : Memory) (t : Tokens) (k : ℕ) (c : List Entry) (freed places w : ℕ) : Type 0 where
  pub right : Right
  pub last_is : w ≡ nth c (length c)
  pub rights : t.rights k ≡ right ∷ []
  pub held : Held m t c freed places right

module _ {links requests : ℕ} {m : Memory} {t : Tokens} {log : List Entry} {freed places : ℕ → ℕ} (s : Chains links requests m t log freed places) where
  pub last_small : (k n : ℕ) → requests ≤ 65535 → n ≤ length (on k log) → nth (on k log) n < IDLE
  last_small k zero narrow h = omega arith
  last_small k (suc n) narrow h = let a = nth_some (on k log) n (omega arith) in let z = in_size s k n a.0 a.1 in let b = a.2 in omega arith

  pub idle_found : (k w : ℕ) → k < links → requests ≤ 65535 → m.head k ≡ some w → IDLE ≤ w → IsIdle t k (on k log) (freed k) (places k) w
  idle_found k w kl narrow head high = elim (s.standing k kl) [
    | absent h r f p ↦ absurd (some-ne-none w (sym head ∙ h))
    | idle h r f p ↦ record { last_is = some-injective w _ (sym head ∙ h); rights = r; all_freed = f; all_placed = p }
    | busy r h q held ↦ (let e : w ≡ nth (on k log) (length (on k log)) = some-injective w _ (sym head ∙ h) in absurd (omega (arith, last_small k (length (on k log)) narrow (omega arith))))
  ]

  pub busy_found : (k w : ℕ) → k < links → m.head k ≡ some w → w < IDLE → IsBusy m t k (on k log) (freed k) (places k) w
  busy_found k w kl head low = elim (s.standing k kl) [
    | absent h r f p ↦ absurd (some-ne-none w (sym head ∙ h))
    | idle h r f p ↦ (let e : w ≡ IDLE + nth (on k log) (length (on k log)) = some-injective w _ (sym head ∙ h) in absurd (omega arith))
    | busy r h q held ↦ record { right = r; last_is = some-injective w _ (sym head ∙ h); rights = q; held = held }
  ]
