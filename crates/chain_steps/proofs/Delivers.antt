-- Steps keep what is said of the place words and of what the links took.
use Rattle.std.proofs.Common.{◌≡◌, ◌≢◌, ℕ, zero, suc, ◌<◌, ◌≤◌, ◌⊎◌, Bool, true, false, leb, leb-true, le-leb, List, [], ◌∷◌, ◌++◌, append_assoc, append-nil, length, sym, refl, ap, ◌∙◌, subst, inl, inr, ⊎_elim, arith}
use mathlib.Core.Logic.{dite}
use mathlib.Core.Option.{Option, none, some, some-injective, some-ne-none}
use native.Mathlib.Decide.{ℕ_discrete}
use lib.ListN.{get_elem?}
use Rattle.sock_model.specs.declared.chain.Entry.{Entry}
use Rattle.sock_model.specs.declared.chain.Right.{Right}
use Rattle.sock_model.specs.Entries.{on}
use Rattle.sock_model.specs.ChainTokens.{Tokens}
use Rattle.sock_model.specs.Deliveries.{HasTaken, whole, Taken, ShownAt, no_place, one_place, Delivered}
use Rattle.chain_steps.proofs.TicketLists.{at_longer, at_snoc, old, new, on_hit, on_miss}
use Rattle.chain_steps.proofs.UntouchedByChainSteps.{Same, Changed, one_token}
use Rattle.sock_model.specs.sock_words.specs.PackedWords.{place_word}

bool_cases : {P : Type 0} (b : Bool) → (b ≡ true → P) → (b ≡ false → P) → P
bool_cases true f g = f refl
bool_cases false f g = g refl

pub le-leb-false : (a b : ℕ) → b < a → leb a b ≡ false
le-leb-false a b h = bool_cases (leb a b) (λ e. let k : a ≤ b = leb-true a b e in absurd (omega arith)) (λ e. e)

whole_snoc : (c : List Entry) (x : Entry) (n : ℕ) → n ≤ length c → whole (c ++ x ∷ []) n ≡ whole c n
whole_snoc [] x zero h = refl
whole_snoc [] x (suc n) h = absurd (omega arith)
whole_snoc (e ∷ es) x zero h = refl
whole_snoc (e ∷ es) x (suc n) h = ap (λ l. e.bytes ++ l) (whole_snoc es x n (omega arith))

whole_none : (c : List Entry) → whole c zero ≡ []
whole_none [] = refl
whole_none (e ∷ es) = refl

pub whole_suc : (c : List Entry) (n : ℕ) (e : Entry) → get_elem? c n ≡ some e → whole c (suc n) ≡ whole c n ++ e.bytes
whole_suc [] n e g = absurd (some-ne-none e (sym g))
whole_suc (x ∷ xs) zero e g = ap (λ l. x.bytes ++ l) (whole_none xs) ∙ (append-nil x.bytes ∙ ap (λ (y : Entry). y.bytes) (some-injective x e g))
whole_suc (x ∷ xs) (suc n) e g = ap (λ l. x.bytes ++ l) (whole_suc xs n e g) ∙ sym (append_assoc x.bytes (whole xs n) e.bytes)

taken_snoc : (c : List Entry) (x : Entry) (n : ℕ) (took : List ℕ) → n ≤ length c → Taken c n took → Taken (c ++ x ∷ []) n took
taken_snoc c x n took h t = record {
  part = t.part;
  took_is = t.took_is ∙ ap (λ l. l ++ t.part) (sym (whole_snoc c x n h));
  of_next = ⊎_elim (λ e. inl e) (λ u. inr (u.0, u.1, at_longer c (x ∷ []) n u.0 u.2, u.3, u.4)) t.of_next;
}

-- what is whole is taken
pub taken_whole : (c : List Entry) (n : ℕ) (took : List ℕ) → took ≡ whole c n → Taken c n took
taken_whole c n took e = record { part = []; took_is = e ∙ sym (append-nil (whole c n)); of_next = inl refl }

-- a link is at home as it was, or with what it took; one that was failed stays so
delivers_on : {links labels : ℕ} {place : ℕ → ℕ} {home : ℕ → Option (List ℕ × ℕ)} {Failed : ℕ → Type 0} {t : Tokens} {log : List Entry} {places kept : ℕ → ℕ} → Delivered links labels place home Failed t log places kept
    → (home' : ℕ → Option (List ℕ × ℕ)) → ((k : ℕ) (took : List ℕ) (next : ℕ) → k < links → home' k ≡ some (took, next) → (home k ≡ some (took, next)) ⊎ HasTaken (on k log) (places k) (kept k) took next)
    → (Failed' : ℕ → Type 0) → ((k : ℕ) → k < links → Failed k → Failed' k) → Delivered links labels place home' Failed' t log places kept
delivers_on s home' from Failed' mono = record {
  kept_fits = s.kept_fits;
  shown = s.shown;
  failed = λ k kl h. mono k kl (s.failed k kl h);
  clean = s.clean;
  sent = s.sent;
  sent_whole = s.sent_whole;
  counted = s.counted;
  at_home = λ k took next kl h. ⊎_elim (λ y. s.at_home k took next kl y) (λ y. y) (from k took next kl h);
}

pub delivers_home : {links labels : ℕ} {place : ℕ → ℕ} {home : ℕ → Option (List ℕ × ℕ)} {Failed : ℕ → Type 0} {t : Tokens} {log : List Entry} {places kept : ℕ → ℕ} → Delivered links labels place home Failed t log places kept
    → (home' : ℕ → Option (List ℕ × ℕ)) → ((k : ℕ) (took : List ℕ) (next : ℕ) → k < links → home' k ≡ some (took, next) → (home k ≡ some (took, next)) ⊎ HasTaken (on k log) (places k) (kept k) took next)
    → Delivered links labels place home' Failed t log places kept
delivers_home {Failed = Failed} s home' from = delivers_on s home' from Failed (λ k kl h. h)

pub delivers_failed : {links labels : ℕ} {place : ℕ → ℕ} {home : ℕ → Option (List ℕ × ℕ)} {Failed : ℕ → Type 0} {t : Tokens} {log : List Entry} {places kept : ℕ → ℕ} → Delivered links labels place home Failed t log places kept
    → (Failed' : ℕ → Type 0) → ((k : ℕ) → k < links → Failed k → Failed' k) → Delivered links labels place home Failed' t log places kept
delivers_failed {home = home} s Failed' mono = delivers_on s home (λ k took next kl h. inl h) Failed' mono

module _ {links labels : ℕ} {place : ℕ → ℕ} {home : ℕ → Option (List ℕ × ℕ)} {Failed : ℕ → Type 0} {t : Tokens} {log : List Entry} {places kept : ℕ → ℕ} (s : Delivered links labels place home Failed t log places kept) where
  -- C2: the entry e is accepted by link k; r is the right that may come
  pub delivers_more : (t' : Tokens) (k : ℕ) (e : Entry) → e.link ≡ k → ((j : ℕ) → j < links → places j ≤ length (on j log))
      → ((j : ℕ) (r : Right) → j < links → t'.rights j ≡ r ∷ [] → (t.rights j ≡ r ∷ []) ⊎ ((r.clean ≡ false) × (home j ≡ some (r.sent, r.places))))
      → Delivered links labels place home Failed t' (log ++ e ∷ []) places kept
  delivers_more t' k e le fit from =
      let grown : (j : ℕ) → (on j (log ++ e ∷ []) ≡ on j log) ⊎ (on j (log ++ e ∷ []) ≡ on j log ++ e ∷ []) = λ j. dite (ℕ_discrete j k) (λ z. inr (on_hit j log e (le ∙ sym z))) (λ z. inl (on_miss j log e (λ y. z (sym y ∙ le)))) in
      let fits : (j : ℕ) → j < links → kept j ≤ length (on j log) = λ j jl. let a = s.kept_fits j jl in let b = fit j jl in omega arith in
      let taken : (j : ℕ) (took : List ℕ) → j < links → Taken (on j log) (kept j) took → Taken (on j (log ++ e ∷ [])) (kept j) took =
      λ j took jl h. ⊎_elim (λ z. subst (λ c. Taken c (kept j) took) (sym z) h) (λ z. subst (λ c. Taken c (kept j) took) (sym z) (taken_snoc (on j log) e (kept j) took (fits j jl) h)) (grown j) in
      let same : (j : ℕ) → j < links → whole (on j (log ++ e ∷ [])) (kept j) ≡ whole (on j log) (kept j) =
      λ j jl. ⊎_elim (λ z. ap (λ c. whole c (kept j)) z) (λ z. ap (λ c. whole c (kept j)) z ∙ whole_snoc (on j log) e (kept j) (fits j jl)) (grown j) in
      let before : (j i : ℕ) (d : Entry) → j < links → i < places j → get_elem? (on j (log ++ e ∷ [])) i ≡ some d → get_elem? (on j log) i ≡ some d =
      λ j i d jl il g. ⊎_elim (λ z. subst (λ c. get_elem? c i ≡ some d) z g)
      (λ (z : on j (log ++ e ∷ []) ≡ on j log ++ e ∷ []). elim (at_snoc (on j log) e i d (subst (λ c. get_elem? c i ≡ some d) z g)) [ old o y ↦ o | new o y ↦ (let b = fit j jl in absurd (omega arith)) ]) (grown j) in
      let after : (j i : ℕ) (d : Entry) → get_elem? (on j log) i ≡ some d → get_elem? (on j (log ++ e ∷ [])) i ≡ some d =
      λ j i d g. ⊎_elim (λ z. subst (λ c. get_elem? c i ≡ some d) (sym z) g) (λ z. subst (λ c. get_elem? c i ≡ some d) (sym z) (at_longer (on j log) (e ∷ []) i d g)) (grown j) in record {
        kept_fits = s.kept_fits;
        shown = λ p pl. elim (s.shown p pl) [
          | no_place z h ↦ no_place z (λ j i d jl il g. h j i d jl il (before j i d jl il g))
          | one_place j i d jl il g q z ↦ one_place j i d jl il (after j i d g) q z
        ];
        failed = s.failed;
        clean = λ j r jl h c. ⊎_elim (λ z. s.clean j r jl z c) (λ z. let y : true ≡ false = sym c ∙ z.0 in cc) (from j r jl h);
        sent = λ j r jl h. taken j r.sent jl (⊎_elim (λ z. s.sent j r jl z) (λ z. (s.at_home j r.sent r.places jl z.1).0) (from j r jl h));
        sent_whole = λ j r jl h q. ⊎_elim (λ z. s.sent_whole j r jl z q) (λ z. (s.at_home j r.sent r.places jl z.1).1 q) (from j r jl h) ∙ sym (same j jl);
        counted = λ j r jl h. ⊎_elim (λ z. s.counted j r jl z) (λ z. (s.at_home j r.sent r.places jl z.1).2) (from j r jl h);
        at_home = λ j took next jl h. let a = s.at_home j took next jl h in (taken j took jl a.0, (λ q. a.1 q ∙ sym (same j jl)), a.2);
      }

  -- steps that leave the places, and of each right whether it is clean and what was sent
  pub delivers_same : (t' : Tokens) (place' : ℕ → ℕ) → Same labels place place'
      → ((j : ℕ) (r' : Right) → j < links → t'.rights j ≡ r' ∷ [] → (r : Right) × (t.rights j ≡ r ∷ []) × (r'.clean ≡ r.clean) × (r'.sent ≡ r.sent) × (r'.places ≡ r.places))
      → Delivered links labels place' home Failed t' log places kept
  delivers_same t' place' pl from = record {
    kept_fits = s.kept_fits;
    shown = λ p z. elim (s.shown p z) [
      | no_place e h ↦ no_place (pl p z ∙ e) h
      | one_place j i d jl il g q e ↦ one_place j i d jl il g q (pl p z ∙ e)
    ];
    failed = s.failed;
    clean = λ j r jl h c. let x = from j r jl h in s.clean j x.0 jl x.1 (sym x.2 ∙ c);
    sent = λ j r jl h. let x = from j r jl h in subst (Taken (on j log) (kept j)) (sym x.3) (s.sent j x.0 jl x.1);
    sent_whole = λ j r jl h q. let x = from j r jl h in x.3 ∙ s.sent_whole j x.0 jl x.1 q;
    counted = λ j r jl h. let x = from j r jl h in x.4 ∙ s.counted j x.0 jl x.1;
    at_home = s.at_home;
  }

  module _ (t' : Tokens) (place' places' kept' : ℕ → ℕ) (Failed' : ℕ → Type 0) (k : ℕ) (r r' : Right) (e : Entry) (kl : k < links) (has : t.rights k ≡ r ∷ []) (has' : Changed links t.rights t'.rights k (r' ∷ []))
      (here : get_elem? (on k log) (places k) ≡ some e) (label_in : e.heading.label.place < labels) (more : Changed links places places' k (suc (places k))) (count' : r'.places ≡ suc r.places) where
    next_count : (j : ℕ) (x : Right) → j < links → t'.rights j ≡ x ∷ [] → x.places ≡ places' j
    next_count j x jl h = dite (ℕ_discrete j k)
        (λ same. let q : r' ≡ x = one_token (t'.rights k) r' x has'.here (ap t'.rights (sym same) ∙ h) in ap (λ (y : Right). y.places) (sym q) ∙ (count' ∙ (ap suc (s.counted k r kl has) ∙ (sym more.here ∙ ap places' (sym same)))))
        (λ far. s.counted j x jl (sym (has'.else j jl far) ∙ h) ∙ sym (more.else j jl far))

    -- what is shown elsewhere, once the entry e of link k has its place
    shown_place : (q : ℕ) → ((j : ℕ) → j < links → j ≢ k → kept' j ≡ kept j) → ((i : ℕ) → i < places k → leb (kept' k) i ≡ leb (kept k) i)
        → Changed labels place place' e.heading.label.place (place_word (leb (kept' k) (places k)) k (places k)) → q < labels → ShownAt links place' log places' kept' q
    shown_place q kk kl' pl ql = dite (ℕ_discrete q e.heading.label.place)
        (λ same. one_place k (places k) e kl (let z = more.here in omega arith) here (sym same) (ap place' same ∙ pl.here))
        (λ ne. elim (s.shown q ql) [
          | no_place z h ↦ no_place (pl.else q ql ne ∙ z) (λ j i d jl il g is. dite (ℕ_discrete j k)
              (λ same. let a : places' j ≡ suc (places k) = ap places' same ∙ more.here in let b : places j ≡ places k = ap places same in
              dite (ℕ_discrete i (places k))
              (λ last. ne (sym is ∙ ap (λ (y : Entry). y.heading.label.place) (some-injective d e (sym g ∙ ((λ w. get_elem? (on (same w) log) (last w)) ∙ here)))))
              (λ early. h j i d jl (omega arith) g is))
              (λ far. let a = more.else j jl far in h j i d jl (omega arith) g is))
          | one_place j i d jl il g is z ↦ dite (ℕ_discrete j k)
              (λ same. let a : places' j ≡ suc (places k) = ap places' same ∙ more.here in let b : places j ≡ places k = ap places same in
              one_place j i d jl (omega arith) g is (pl.else q ql ne ∙ (z ∙ ap (λ y. place_word y j i) (ap (λ y. leb (kept y) i) same ∙ (sym (kl' i (omega arith)) ∙ ap (λ y. leb (kept' y) i) (sym same))))))
              (λ far. let a = more.else j jl far in one_place j i d jl (omega arith) g is (pl.else q ql ne ∙ (z ∙ ap (λ y. place_word (leb y i) j i) (sym (kk j jl far)))))
        ])

    -- P1, where the message was taken whole
    pub places_whole : r.clean ≡ true → r'.clean ≡ r.clean → r'.sent ≡ r.sent ++ e.bytes → Changed links kept kept' k (suc (kept k))
        → Changed labels place place' e.heading.label.place (place_word false k (places k)) → ((j : ℕ) → j < links → Failed j → Failed' j) → home k ≡ none
        → Delivered links labels place' home Failed' t' log places' kept'
    places_whole was clean' sent' kp pl mono away =
        let all : kept k ≡ places k = s.clean k r kl has was in
        let right_is : (x : Right) → t'.rights k ≡ x ∷ [] → r' ≡ x = λ x h. one_token (t'.rights k) r' x has'.here h in
        let whole' : r'.sent ≡ whole (on k log) (suc (kept k)) = sent' ∙ ((λ w. s.sent_whole k r kl has all w ++ e.bytes) ∙ sym (whole_suc (on k log) (kept k) e (ap (λ y. get_elem? (on k log) y) all ∙ here))) in
        let whole'' : r'.sent ≡ whole (on k log) (kept' k) = whole' ∙ ap (λ y. whole (on k log) y) (sym kp.here) in
        let high : leb (kept' k) (places k) ≡ false = (let a = kp.here in le-leb-false (kept' k) (places k) (omega arith)) in record {
          kept_fits = λ j jl. dite (ℕ_discrete j k)
              (λ same. let a : kept' j ≡ suc (kept k) = ap kept' same ∙ kp.here in let b : places' j ≡ suc (places k) = ap places' same ∙ more.here in omega arith)
              (λ far. let a = kp.else j jl far in let b = more.else j jl far in let c = s.kept_fits j jl in omega arith);
          shown = λ q ql. shown_place q (λ j jl far. kp.else j jl far)
              (λ i il. let a = kp.here in le-leb-false (kept' k) i (omega arith) ∙ sym (le-leb-false (kept k) i (omega arith)))
              (subst (λ y. Changed labels place place' e.heading.label.place (place_word y k (places k))) (sym high) pl) ql;
          failed = λ j jl low. dite (ℕ_discrete j k)
              (λ same. let a : kept' j ≡ suc (kept k) = ap kept' same ∙ kp.here in let b : places' j ≡ suc (places k) = ap places' same ∙ more.here in absurd (omega arith))
              (λ far. let a = kp.else j jl far in let b = more.else j jl far in mono j jl (s.failed j jl (omega arith)));
          clean = λ j x jl h c. dite (ℕ_discrete j k)
              (λ same. let a : kept' j ≡ suc (kept k) = ap kept' same ∙ kp.here in let b : places' j ≡ suc (places k) = ap places' same ∙ more.here in omega arith)
              (λ far. kp.else j jl far ∙ (s.clean j x jl (sym (has'.else j jl far) ∙ h) c ∙ sym (more.else j jl far)));
          sent = λ j x jl h. dite (ℕ_discrete j k)
              (λ same. subst (λ y. Taken (on y log) (kept' y) x.sent) (sym same) (taken_whole (on k log) (kept' k) x.sent (ap (λ (y : Right). y.sent) (sym (right_is x (ap t'.rights (sym same) ∙ h))) ∙ whole'')))
              (λ far. subst (λ y. Taken (on j log) y x.sent) (sym (kp.else j jl far)) (s.sent j x jl (sym (has'.else j jl far) ∙ h)));
          sent_whole = λ j x jl h q. dite (ℕ_discrete j k)
              (λ same. ap (λ (y : Right). y.sent) (sym (right_is x (ap t'.rights (sym same) ∙ h))) ∙ (whole'' ∙ ap (λ y. whole (on y log) (kept' y)) (sym same)))
              (λ far. s.sent_whole j x jl (sym (has'.else j jl far) ∙ h) (sym (kp.else j jl far) ∙ (q ∙ more.else j jl far)) ∙ ap (λ y. whole (on j log) y) (sym (kp.else j jl far)));
          counted = λ j x jl h. next_count j x jl h;
          at_home = λ j took next jl h. let far : j ≢ k = λ same. some-ne-none (took, next) (sym h ∙ (ap home same ∙ away)) in let a = s.at_home j took next jl h in
              (subst (λ y. Taken (on j log) y took) (sym (kp.else j jl far)) a.0, (λ q. a.1 (sym (kp.else j jl far) ∙ (q ∙ more.else j jl far)) ∙ ap (λ y. whole (on j log) y) (sym (kp.else j jl far))), a.2 ∙ sym (more.else j jl far));
        }

    -- P1 with the dropped bit: its holder found the socket failed. Where a part of the message was taken, the right was clean
    pub drops : r'.clean ≡ false → (r'.sent ≡ r.sent) ⊎ ((r.clean ≡ true) × (part : List ℕ) × (rest : List ℕ) × (r'.sent ≡ r.sent ++ part) × (e.bytes ≡ part ++ rest) × (rest ≢ []))
        → Same links kept kept' → Changed labels place place' e.heading.label.place (place_word true k (places k)) → ((j : ℕ) → j < links → Failed j → Failed' j) → Failed' k → home k ≡ none
        → Delivered links labels place' home Failed' t' log places' kept'
    drops clean' sent' kp pl mono dead away =
        let same_kept : kept' k ≡ kept k = kp k kl in
        let right_is : (x : Right) → t'.rights k ≡ x ∷ [] → r' ≡ x = λ x h. one_token (t'.rights k) r' x has'.here h in
        let fit = s.kept_fits k kl in
        let low : leb (kept' k) (places k) ≡ true = le-leb (kept' k) (places k) (omega arith) in
        let taken : Taken (on k log) (kept k) r'.sent = ⊎_elim (λ z. subst (Taken (on k log) (kept k)) (sym z) (s.sent k r kl has))
        (λ z. let all : kept k ≡ places k = s.clean k r kl has z.0 in record {
          part = z.1;
          took_is = z.3 ∙ ap (λ l. l ++ z.1) (s.sent_whole k r kl has all);
          of_next = inr (e, z.2, ap (λ y. get_elem? (on k log) y) all ∙ here, z.4, z.5);
        }) sent' in record {
          kept_fits = λ j jl. dite (ℕ_discrete j k)
              (λ same. let a = kp j jl in let b : places' j ≡ suc (places k) = ap places' same ∙ more.here in let c : kept j ≡ kept k = ap kept same in omega arith)
              (λ far. let a = kp j jl in let b = more.else j jl far in let c = s.kept_fits j jl in omega arith);
          shown = λ q ql. shown_place q (λ j jl far. kp j jl) (λ i il. ap (λ y. leb y i) same_kept)
              (subst (λ y. Changed labels place place' e.heading.label.place (place_word y k (places k))) (sym low) pl) ql;
          failed = λ j jl h. dite (ℕ_discrete j k) (λ same. subst Failed' (sym same) dead)
              (λ far. let a = kp j jl in let b = more.else j jl far in mono j jl (s.failed j jl (omega arith)));
          clean = λ j x jl h c. dite (ℕ_discrete j k)
              (λ same. let y : true ≡ false = sym c ∙ (ap (λ (y : Right). y.clean) (sym (right_is x (ap t'.rights (sym same) ∙ h))) ∙ clean') in cc)
              (λ far. kp j jl ∙ (s.clean j x jl (sym (has'.else j jl far) ∙ h) c ∙ sym (more.else j jl far)));
          sent = λ j x jl h. dite (ℕ_discrete j k)
              (λ same. subst (λ y. Taken (on y log) (kept' y) x.sent) (sym same)
              (subst (λ y. Taken (on k log) y x.sent) (sym same_kept) (subst (λ (y : Right). Taken (on k log) (kept k) y.sent) (right_is x (ap t'.rights (sym same) ∙ h)) taken)))
              (λ far. subst (λ y. Taken (on j log) y x.sent) (sym (kp j jl)) (s.sent j x jl (sym (has'.else j jl far) ∙ h)));
          sent_whole = λ j x jl h q. dite (ℕ_discrete j k)
              (λ same. let a = kp j jl in let b : places' j ≡ suc (places k) = ap places' same ∙ more.here in let c : kept j ≡ kept k = ap kept same in absurd (omega arith))
              (λ far. s.sent_whole j x jl (sym (has'.else j jl far) ∙ h) (sym (kp j jl) ∙ (q ∙ more.else j jl far)) ∙ ap (λ y. whole (on j log) y) (sym (kp j jl)));
          counted = λ j x jl h. next_count j x jl h;
          at_home = λ j took next jl h. let far : j ≢ k = λ same. some-ne-none (took, next) (sym h ∙ (ap home same ∙ away)) in let a = s.at_home j took next jl h in
              (subst (λ y. Taken (on j log) y took) (sym (kp j jl)) a.0, (λ q. a.1 (sym (kp j jl) ∙ (q ∙ more.else j jl far)) ∙ ap (λ y. whole (on j log) y) (sym (kp j jl))), a.2 ∙ sym (more.else j jl far));
        }

  -- A8 of the holder, which found the socket live
  pub looks : (t' : Tokens) (k : ℕ) (r r' : Right) → k < links → t.rights k ≡ r ∷ [] → Changed links t.rights t'.rights k (r' ∷ []) → r'.sent ≡ r.sent → r'.places ≡ r.places → ¬ Failed k
      → Delivered links labels place home Failed t' log places kept
  looks t' k r r' kl has has' sent' count' live =
      let all : kept k ≡ places k = (let a = s.kept_fits k kl in let b : ¬ (kept k < places k) = λ h. live (s.failed k kl h) in omega arith) in
      let right_is : (x : Right) → t'.rights k ≡ x ∷ [] → r' ≡ x = λ x h. one_token (t'.rights k) r' x has'.here h in
      let sent_is : (j : ℕ) → j ≡ k → (x : Right) → t'.rights j ≡ x ∷ [] → x.sent ≡ r.sent = λ j same x h. ap (λ (y : Right). y.sent) (sym (right_is x (ap t'.rights (sym same) ∙ h))) ∙ sent' in record {
        kept_fits = s.kept_fits;
        shown = s.shown;
        failed = s.failed;
        clean = λ j x jl h c. dite (ℕ_discrete j k) (λ same. ap kept same ∙ (all ∙ ap places (sym same))) (λ far. s.clean j x jl (sym (has'.else j jl far) ∙ h) c);
        sent = λ j x jl h. dite (ℕ_discrete j k) (λ same. subst (λ y. Taken (on y log) (kept y) x.sent) (sym same) (subst (Taken (on k log) (kept k)) (sym (sent_is j same x h)) (s.sent k r kl has))) (λ far. s.sent j x jl (sym (has'.else j jl far) ∙ h));
        sent_whole = λ j x jl h q. dite (ℕ_discrete j k) (λ same. sent_is j same x h ∙ (s.sent_whole k r kl has all ∙ ap (λ y. whole (on y log) (kept y)) (sym same))) (λ far. s.sent_whole j x jl (sym (has'.else j jl far) ∙ h) q);
        counted = λ j x jl h. dite (ℕ_discrete j k) (λ same. ap (λ (y : Right). y.places) (sym (right_is x (ap t'.rights (sym same) ∙ h))) ∙ (count' ∙ (s.counted k r kl has ∙ ap places (sym same)))) (λ far. s.counted j x jl (sym (has'.else j jl far) ∙ h));
        at_home = s.at_home;
      }

  -- L1 and L2: a link goes out, or comes home with what its right has sent
  pub moves_link : (home' : ℕ → Option (List ℕ × ℕ)) → ((j : ℕ) (took : List ℕ) (next : ℕ) → j < links → home' j ≡ some (took, next) → (home j ≡ some (took, next)) ⊎ ((r : Right) × (t.rights j ≡ r ∷ []) × (took ≡ r.sent) × (next ≡ r.places)))
      → Delivered links labels place home' Failed t log places kept
  moves_link home' from = delivers_home s home' (λ j took next jl h. ⊎_elim (λ z. inl z)
      (λ z. inr (subst (Taken (on j log) (kept j)) (sym z.2) (s.sent j z.0 jl z.1), (λ q. z.2 ∙ s.sent_whole j z.0 jl z.1 q), z.3 ∙ s.counted j z.0 jl z.1)) (from j took next jl h))
