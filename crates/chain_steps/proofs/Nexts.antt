-- A next word is connected, or turned round by the walk; a request is given back.
use Rattle.std.proofs.Common.{◌≡◌, ◌≢◌, ℕ, suc, ◌+◌, ◌-◌, ◌<◌, ◌≤◌, List, [], ◌∷◌, sym, refl, ap, ◌∙◌, subst, inl, ⊎_elim, arith}
use mathlib.Core.Logic.{dite}
use mathlib.Core.Option.{some, some-injective}
use native.Mathlib.Decide.{ℕ_discrete}
use lib.ListN.{get_elem?}
use Rattle.sock_model.specs.declared.chain.Entry.{Entry}
use Rattle.sock_model.specs.Entries.{ticket, on, nth}
use Rattle.sock_model.specs.declared.chain.Right.{Right}
use Rattle.sock_model.specs.declared.chain.Loose.{Loose}
use Rattle.sock_model.specs.declared.chain.Stage.TheVariants.{Writes, Reversing, ReversesNext}
use Rattle.sock_model.specs.ChainTokens.{Tokens}
use Rattle.sock_model.specs.ChainMemory.{Memory}
use Rattle.sock_model.specs.LinkWritingState.{Counts, Connected, loose_of, Waits, Points, OnWalk, InStage, Held, Standing, absent, idle, busy}
use Rattle.sock_model.specs.RequestStates.{UsedRequest, free_phase, claimed_phase, used_phase, retired_phase, InUse}
use Rattle.sock_model.specs.Chains.{Chains}
use Rattle.chain_steps.proofs.TicketLists.{nth_some, nth_same}
use Rattle.chain_steps.proofs.UntouchedByChainSteps.{Same, Changed, one_token, no_token, in_size, on_distinct, live_same, stage_frame, standing_frame, in_use_frame, points_frame, held_again}
use Rattle.chain_steps.proofs.Claims.{used_word}
use Rattle.chain_steps.proofs.ChainHeadSteps.{slot_is, held_of}
use Rattle.sock_model.specs.sock_words.specs.PackedWords.{ticket_request}

-- a loose entry is connected
points_connect : (c : List Entry) (n : Counts) (i : ℕ) (e : Entry) (x x' : ℕ) (l l' : List Loose) (y : Loose) → l ≡ y ∷ [] → x' ≡ y.before → l' ≡ [] → Points c n i e x l → Points c n i e x' l'
points_connect c n i e x x' l l' y is px pl h =
    let waits : Waits e x l → Waits e x' l' = λ w. ⊎_elim (λ (u : Connected e x l). absurd (no_token l y is u.1)) (λ u. inl (px ∙ ap (λ (z : Loose). z.before) (one_token l y (loose_of e) is u.1), pl)) w in record {
      written = λ k. absurd (no_token l y is (h.written k).0);
      unturned = λ k q. waits (h.unturned k q);
      turned = λ k q. absurd (no_token l y is (h.turned k q).0);
      newer = λ k. waits (h.newer k);
    }

module _ (m m' : Memory) (t t' : Tokens) where
  held_connect : (c : List Entry) (freed places q : ℕ) (y : Loose) (r : Right) → t.loose q ≡ y ∷ [] → m'.next q ≡ y.before → t'.loose q ≡ []
      → ((i : ℕ) (e : Entry) → freed ≤ i → get_elem? c i ≡ some e → e.request ≢ q → (m'.next e.request ≡ m.next e.request) × (t'.loose e.request ≡ t.loose e.request))
      → Held m t c freed places r → Held m' t' c freed places r
  held_connect c freed places q y r is nx lo others h = held_again m m' t t' c freed places r h
      (stage_frame m m' t t' c h.counts freed places r.stage (λ i e late g still. others i e late g (λ z. no_token (t.loose q) y is (ap t.loose (sym z) ∙ still))) h.stage_is)
      (λ i e late g. dite (ℕ_discrete e.request q)
      (λ z. points_connect c h.counts i e (m.next e.request) (m'.next e.request) (t.loose e.request) (t'.loose e.request) y (ap t.loose z ∙ is) (ap m'.next z ∙ nx) (ap t'.loose z ∙ lo) (h.points i e late g))
      (λ z. let a = others i e late g z in points_frame m m' t t' c h.counts i e (m.next e.request) (m'.next e.request) (t.loose e.request) (t'.loose e.request) a.0 a.1 (h.points i e late g)))

module _ {links requests : ℕ} {m : Memory} {t : Tokens} {log : List Entry} {freed places : ℕ → ℕ} (s : Chains links requests m t log freed places) where
  -- the request of a loose entry is used by it
  pub loose_used : (q : ℕ) (y : Loose) (h : InUse m t log freed q) → t.loose q ≡ y ∷ [] → UsedRequest m t log freed q h.generation h.times
  loose_used q y h is = elim h.phase [
    | free_phase u ↦ absurd (no_token (t.loose q) y is u.still)
    | claimed_phase u ↦ absurd (no_token (t.loose q) y is u.still)
    | used_phase u ↦ u
    | retired_phase u ↦ absurd (no_token (t.loose q) y is u.still)
  ]

  module _ {m' : Memory} {t' : Tokens} where
    -- C3
    pub connects : (q : ℕ) (y : Loose) → q < requests → t.loose q ≡ y ∷ []
        → Same links m.head m'.head → Changed requests m.next m'.next q y.before → Same requests m.request m'.request
        → Same links t.rights t'.rights → Same requests t.claims t'.claims → Changed requests t.loose t'.loose q []
        → Chains links requests m' t' log freed places
    connects q y ql is hd nx rq rt cl lo =
        let u = loose_used q y (s.in_use q ql) is in
        let none : t.claims q ≡ [] = (used_word s q _ _ u).1 in
        let others : (k i : ℕ) (e : Entry) → freed k ≤ i → get_elem? (on k log) i ≡ some e → e.request ≢ q → (m'.next e.request ≡ m.next e.request) × (t'.loose e.request ≡ t.loose e.request) =
        λ k i e late g z. let size = in_size s k i e g in (nx.else e.request size.1 z, lo.else e.request size.1 z) in record {
          chained = s.chained;
          differ = s.differ;
          sized = s.sized;
          standing = λ k kl. elim (s.standing k kl) [
            | absent h a f p ↦ absent (hd k kl ∙ h) (rt k kl ∙ a) f p
            | idle h a f p ↦ idle (hd k kl ∙ h) (rt k kl ∙ a) f p
            | busy r h a held ↦ busy r (hd k kl ∙ h) (rt k kl ∙ a) (held_connect m m' t t' (on k log) (freed k) (places k) q y r is nx.here lo.here (others k) held)
          ];
          live = λ k i e late g. let size = in_size s k i e g in let w = s.live k i e late g in (rq e.request size.1 ∙ w.0, cl e.request size.1 ∙ w.1);
          in_use = λ j jl. in_use_frame m m' t t' log log freed freed j
              (λ c z. nx.else j jl (λ same. no_token (t.claims j) c z (ap t.claims same ∙ none))) (rq j jl) (cl j jl)
              (λ z. dite (ℕ_discrete j q) (λ same. ap t'.loose same ∙ lo.here) (λ ne. lo.else j jl ne ∙ z)) refl (λ k i e late g same. (late, g)) (s.in_use j jl);
        }

-- C6: the entry behind the place where the walk stands is turned; x' is its new word
turned_here : (c : List Entry) (n : Counts) (j after : ℕ) (e : Entry) (x' : ℕ) (l : List Loose) (w : Counts) → suc j ≡ n.left → n.left ≤ n.top
    → x' ≡ after → (n.left < n.top → after ≡ nth c (suc n.left)) → (n.left ≡ n.top → after ≡ 0) → l ≡ [] → w.noted ≤ j → w.left ≤ j → w.top ≡ n.top → Points c w j e x' l
turned_here c n j after e x' l w is le px behind end still a b d = record {
  written = λ k. absurd (omega arith);
  unturned = λ k q. absurd (omega arith);
  turned = λ k q. (still, (λ z. px ∙ (behind (omega arith) ∙ ap (λ y. nth c (suc y)) (sym is))), λ z. px ∙ end (omega arith));
  newer = λ k. absurd (omega arith);
}

-- the same where the walk ends: the turned entries are the ones to write
written_here : (c : List Entry) (n : Counts) (j after : ℕ) (e : Entry) (x' : ℕ) (l : List Loose) (w : Counts) → suc j ≡ n.left → n.left ≤ n.top
    → x' ≡ after → (n.left < n.top → after ≡ nth c (suc n.left)) → l ≡ [] → w.noted ≡ n.top → w.left ≡ n.top → w.top ≡ n.top → Points c w j e x' l
written_here c n j after e x' l w is le px behind still a b d = record {
  written = λ k. (still, λ z. px ∙ (behind (omega arith) ∙ ap (λ y. nth c (suc y)) (sym is)));
  unturned = λ k q. absurd (omega arith);
  turned = λ k q. absurd (omega arith);
  newer = λ k. absurd (omega arith);
}

-- an entry elsewhere points where it did, whether the walk goes on
points_on : (c : List Entry) (n w : Counts) (j i : ℕ) (e : Entry) (x : ℕ) (l : List Loose) → i ≢ j → suc j ≡ n.left → n.noted ≤ n.left → n.left ≤ n.top → w.noted ≡ n.noted → w.left ≡ j → w.top ≡ n.top → Points c n i e x l → Points c w i e x l
points_on c n w j i e x l ne is f g a b d h = record {
  written = λ k. ((h.written (omega arith)).0, λ z. (h.written (omega arith)).1 (omega arith));
  unturned = λ k q. h.unturned (omega arith) (omega arith);
  turned = λ k q. ((h.turned (omega arith) (omega arith)).0, (λ z. (h.turned (omega arith) (omega arith)).1 (omega arith)), λ z. (h.turned (omega arith) (omega arith)).2 (omega arith));
  newer = λ k. h.newer (omega arith);
}

-- or ends
points_end : (c : List Entry) (n w : Counts) (j i : ℕ) (e : Entry) (x : ℕ) (l : List Loose) → i ≢ j → j ≤ i → suc j ≡ n.left → n.left ≤ n.top → w.noted ≡ n.top → w.left ≡ n.top → w.top ≡ n.top → Points c n i e x l → Points c w i e x l
points_end c n w j i e x l ne late is g a b d h = record {
  written = λ k. ((h.turned (omega arith) (omega arith)).0, λ z. (h.turned (omega arith) (omega arith)).1 (omega arith));
  unturned = λ k q. absurd (omega arith);
  turned = λ k q. absurd (omega arith);
  newer = λ k. h.newer (omega arith);
}

-- what a walk that has read the next word knows of the entry at which it stands
pub record Stands (m : Memory) (t : Tokens) (c : List Entry) (n : Counts) (freed places top at after before : ℕ) : Type 0 where
  pub place : ℕ
  pub entry : Entry
  pub left_is : suc place ≡ n.left
  pub here : get_elem? c place ≡ some entry
  pub at_is : at ≡ ticket entry
  pub late : freed ≤ place
  pub walk : OnWalk c n freed places top at after
  pub before_is : before ≡ entry.before
  pub still : t.loose entry.request ≡ []

stands : (m : Memory) (t : Tokens) (c : List Entry) (freed places : ℕ) (r : Right) (h : Held m t c freed places r) (top at after before : ℕ) → r.stage ≡ ReversesNext top at after before → Stands m t c h.counts freed places top at after before
stands m t c freed places r h top at after before stage =
    let n = h.counts in let f = h.fits in
    let st : InStage m t c n freed places (ReversesNext top at after before) = subst (InStage m t c n freed places) stage h.stage_is in
    let wk : OnWalk c n freed places top at after = st.0 in let sl = wk.some_left in let af = wk.all_freed in
    let j : ℕ = n.left - 1 in let is : suc (n.left - 1) ≡ n.left = omega arith in
    let a = nth_some c (n.left - 1) (omega arith) in let k = st.1 (n.left - 1) a.0 is a.1 in record {
      place = n.left - 1;
      entry = a.0;
      left_is = is;
      here = a.1;
      at_is = sym wk.at_is ∙ (ap (λ y. nth c y) (sym is) ∙ a.2);
      late = omega arith;
      walk = wk;
      before_is = k.0;
      still = k.1.1;
    }

module _ {links requests : ℕ} {m : Memory} {t : Tokens} {log : List Entry} {freed places : ℕ → ℕ} (s : Chains links requests m t log freed places) where
  module _ (m' : Memory) (t' : Tokens) (k : ℕ) (r : Right) (kl : k < links) (has : t.rights k ≡ r ∷ []) (narrow : requests ≤ 65535) (top at after before : ℕ) (stage : r.stage ≡ ReversesNext top at after before)
      (hd : Same links m.head m'.head) (nx : Changed requests m.next m'.next (ticket_request at) after) (rq : Same requests m.request m'.request)
      (cl : Same requests t.claims t'.claims) (lo : Same requests t.loose t'.loose) where
    held : Held m t (on k log) (freed k) (places k) r
    held = (held_of s k r kl has).1

    here : Stands m t (on k log) held.counts (freed k) (places k) top at after before
    here = stands m t (on k log) (freed k) (places k) r held top at after before stage

    in_here : (k < links) × (here.entry.request < requests) × (here.entry.generation < 140737488355328)
    in_here = in_size s k here.place here.entry here.here

    slot : ticket_request at ≡ here.entry.request
    slot = let b = in_here.1 in ap ticket_request here.at_is ∙ slot_is here.entry (omega arith)

    -- the other entries' next words stay
    elsewhere : (j i : ℕ) (d : Entry) → freed j ≤ i → get_elem? (on j log) i ≡ some d → (j ≡ k → i ≢ here.place) → m'.next d.request ≡ m.next d.request
    elsewhere j i d late g ne = nx.else d.request (in_size s j i d g).1 (λ same. let z = live_same s j i d k here.place here.entry late g here.late here.here (same ∙ slot) in ne z.0 z.1)

    -- C6, the links aside
    turns_next : ((j : ℕ) → j < links → j ≢ k → t'.rights j ≡ t.rights j) → Standing m' t' k (on k log) (freed k) (places k) → Chains links requests m' t' log freed places
    turns_next rt now = record {
      chained = s.chained;
      differ = s.differ;
      sized = s.sized;
      standing = λ j jl. dite (ℕ_discrete j k) (λ same. subst (λ q. Standing m' t' q (on q log) (freed q) (places q)) (sym same) now)
          (λ ne. standing_frame m m' t t' j (on j log) (freed j) (places j) (hd j jl) (rt j jl ne) (λ i d late g. (elsewhere j i d late g (λ z. absurd (ne z)), lo d.request (in_size s j i d g).1)) (s.standing j jl));
      live = λ j i d late g. let size = in_size s j i d g in let w = s.live j i d late g in (rq d.request size.1 ∙ w.0, cl d.request size.1 ∙ w.1);
      in_use = λ q ql. in_use_frame m m' t t' log log freed freed q
          (λ c z. nx.else q ql (λ same. no_token (t.claims q) c z (ap t.claims (same ∙ slot) ∙ (s.live k here.place here.entry here.late here.here).1))) (rq q ql) (cl q ql) (λ z. lo q ql ∙ z) refl (λ j i d late g same. (late, g)) (s.in_use q ql);
    }

    -- the walk goes on
    pub turns_on : (r' : Right) → before ≢ r.last → r'.last ≡ r.last → r'.turned ≡ suc r.turned → r'.noted ≡ r.noted → r'.stage ≡ Reversing top before at → Changed links t.rights t'.rights k (r' ∷ []) → Chains links requests m' t' log freed places
    turns_on r' on_it last' turned' noted' stage' rt =
        let c = on k log in let n = held.counts in let f = held.fits in let j = here.place in let is = here.left_is in let wk = here.walk in let fr = wk.all_freed in let sl = wk.some_left in
        let back : before ≡ nth c j = here.before_is ∙ s.chained k j here.entry here.here in
        let more : n.noted < j = (let z : n.noted ≢ j = λ q. on_it (back ∙ (ap (λ y. nth c y) (sym q) ∙ held.last_is)) in omega arith) in
        let w : Counts = record { noted = n.noted; left = j; top = n.top } in
        let new : Held m' t' c (freed k) (places k) r' = record {
          counts = w;
          some_noted = held.some_noted;
          fits = (f.0, omega arith, omega arith, f.3);
          turned_is = (let z = held.turned_is in omega arith);
          noted_is = held.noted_is ∙ sym noted';
          last_is = held.last_is ∙ sym last';
          stage_is = subst (InStage m' t' c w (freed k) (places k)) (sym stage') record {
            all_freed = fr;
            some_left = more;
            top_is = wk.top_is;
            at_is = sym back;
            after_is = λ z. sym wk.at_is ∙ ap (λ y. nth c y) (sym is);
            no_after = λ z. absurd (omega arith);
          };
          points = λ i d late g. dite (ℕ_discrete i j)
              (λ same. let de : here.entry ≡ d = some-injective here.entry d (sym here.here ∙ (ap (λ y. get_elem? c y) (sym same) ∙ g)) in
              subst (λ (y : Entry). Points c w i y (m'.next y.request) (t'.loose y.request)) de
              (subst (λ y. Points c w y here.entry (m'.next here.entry.request) (t'.loose here.entry.request)) (sym same)
              (turned_here c n j after here.entry (m'.next here.entry.request) (t'.loose here.entry.request) w is f.2
              (ap m'.next (sym slot) ∙ nx.here) wk.after_is wk.no_after (lo here.entry.request in_here.1 ∙ here.still) (omega arith) (omega arith) refl)))
              (λ ne. points_on c n w j i d (m'.next d.request) (t'.loose d.request) ne is f.1 f.2 refl refl refl
              (points_frame m m' t t' c n i d (m.next d.request) (m'.next d.request) (t.loose d.request) (t'.loose d.request) (elsewhere k i d late g (λ z. ne)) (lo d.request (in_size s k i d g).1) (held.points i d late g)));
        } in turns_next rt.else (busy r' (hd k kl ∙ (held_of s k r kl has).0) rt.here new)

    -- the walk ends
    pub turns_last : (r' : Right) → before ≡ r.last → r'.last ≡ top → r'.turned ≡ 0 → r'.noted ≡ r.noted + suc r.turned → r'.stage ≡ Writes at → Changed links t.rights t'.rights k (r' ∷ []) → Chains links requests m' t' log freed places
    turns_last r' on_it last' turned' noted' stage' rt =
        let c = on k log in let n = held.counts in let f = held.fits in let j = here.place in let is = here.left_is in let wk = here.walk in let fr = wk.all_freed in let sl = wk.some_left in
        let back : before ≡ nth c j = here.before_is ∙ s.chained k j here.entry here.here in
        let end : n.noted ≡ j = nth_same c (on_distinct s k) n.noted j (omega arith) (omega arith) (held.last_is ∙ (sym on_it ∙ back)) in
        let w : Counts = record { noted = n.top; left = n.top; top = n.top } in
        let new : Held m' t' c (freed k) (places k) r' = record {
          counts = w;
          some_noted = omega arith;
          fits = (omega arith, omega arith, omega arith, f.3);
          turned_is = omega arith;
          noted_is = (let z = held.turned_is in let y = held.noted_is in omega arith);
          last_is = wk.top_is ∙ sym last';
          stage_is = subst (InStage m' t' c w (freed k) (places k)) (sym stage') ((refl, refl), fr.1, omega arith, ap (λ y. nth c y) (let z : suc (freed k) ≡ n.left = omega arith in z) ∙ wk.at_is);
          points = λ i d late g. dite (ℕ_discrete i j)
              (λ same. let de : here.entry ≡ d = some-injective here.entry d (sym here.here ∙ (ap (λ y. get_elem? c y) (sym same) ∙ g)) in
              subst (λ (y : Entry). Points c w i y (m'.next y.request) (t'.loose y.request)) de
              (subst (λ y. Points c w y here.entry (m'.next here.entry.request) (t'.loose here.entry.request)) (sym same)
              (written_here c n j after here.entry (m'.next here.entry.request) (t'.loose here.entry.request) w is f.2
              (ap m'.next (sym slot) ∙ nx.here) wk.after_is (lo here.entry.request in_here.1 ∙ here.still) refl refl refl)))
              (λ ne. points_end c n w j i d (m'.next d.request) (t'.loose d.request) ne (omega arith) is f.2 refl refl refl
              (points_frame m m' t t' c n i d (m.next d.request) (m'.next d.request) (t.loose d.request) (t'.loose d.request) (elsewhere k i d late g (λ z. ne)) (lo d.request (in_size s k i d g).1) (held.points i d late g)));
        } in turns_next rt.else (busy r' (hd k kl ∙ (held_of s k r kl has).0) rt.here new)

-- the next word that the walk turns is one of an entry's request
pub turn_slot : {links requests : ℕ} {m : Memory} {t : Tokens} {log : List Entry} {freed places : ℕ → ℕ} (s : Chains links requests m t log freed places) (k : ℕ) (r : Right) → k < links → t.rights k ≡ r ∷ [] → requests ≤ 65535
    → (top at after before : ℕ) → r.stage ≡ ReversesNext top at after before
    → (i : ℕ) × (e : Entry) × (freed k ≤ i) × (get_elem? (on k log) i ≡ some e) × (ticket_request at ≡ e.request) × (ticket_request at < requests)
turn_slot {m = m} {t = t} {log = log} {freed = freed} {places = places} s k r kl has narrow top at after before stage =
    let h = (held_of s k r kl has).1 in let x = stands m t (on k log) (freed k) (places k) r h top at after before stage in
    let b = in_size s k x.place x.entry x.here in let c = b.1 in
    let q : ticket_request at ≡ x.entry.request = ap ticket_request x.at_is ∙ slot_is x.entry (omega arith) in (x.place, x.entry, x.late, x.here, q, omega arith)
