-- Steps under the rule by the key of a table: what homes show there, and what the steps tell that are told the ways of the links.
use Rattle.std.proofs.Common.{◌≡◌, ℕ, zero, suc, ◌<◌, Bool, true, false, cond, eqb, List, refl, sym, ap, ◌∙◌, subst, arith}
use Rattle.std.specs.Prelude.{bytes_eq}
use Rattle.std.proofs.Math.Dec.{eqb-suc-zero}
use Rattle.std.proofs.lemmas.Slice.Eq.{bytes_eq-Decides}
use mathlib.Core.Option.{none, some}
use prog.Atomic.{either}
use Rattle.atomic_table.specs.Table.{State, Me, step, stepped, Allows}
use Rattle.sock_io.specs.declared.link.Out.{Ghosts}
use Rattle.sock_io.specs.LinkHalves.{OutState}
use Rattle.sock_words.specs.declared.plain.Plan.{Plan}
use Rattle.sock_model.specs.declared.chain.Claim.{Claim}
use Rattle.sock_model.specs.declared.chain.Heading.{Heading}
use Rattle.sock_model.specs.declared.home.Home.{Home}
use Rattle.sock_model.specs.declared.home.Home.TheVariants as home
use Rattle.sock_model.specs.declared.view.View.{View}
use Rattle.sock_model.specs.SlotRows.{met_link}
use Rattle.sock_rule.specs.NotesBesideRows.{dropped_at}
use Rattle.sock_model.specs.ChainRows.{with_claim, with_right, dropped_right}
use Rattle.sock_rule.specs.declared.homes.SockHome.{SockHome}
use Rattle.sock_rule.specs.declared.homes.SockHome.TheVariants.{Empty, Link, Message, Ways}
use Rattle.sock_rule.specs.ChainPlays.{took_in, filled_with, fill_told, take_own_told, take_letter_told, drop_told}
use Rattle.sock_rule.specs.SocketPlays.{take_last_told, spend_told}
use Rattle.sock_rule.specs.Shows.{shows, rose, way_at, number_in, shows_in, SaysWays, SaidWays}
use Rattle.sock_rule.specs.OnKey.{take_own_said, take_last_said, spend_said}

-- ## A step tells what follows from what it tells

module _ {S V : Type 0} (holds : State S V → Type 0) (slots id i : ℕ) (me : Me S V) where
  pub allows_alike : (f h : ℕ → ℕ) (told also : ℕ → Me S V → Type 0) → ((n : ℕ) → f n ≡ h n) → ((n : ℕ) (m : Me S V) → told n m → also n m) → Allows holds slots id me i f told → Allows holds slots id me i h also
  allows_alike f h told also same more may s t long here fits = let a = may s t long here fits in (
    a.0,
    a.1,
    a.2,
    subst (λ (n : ℕ). holds (stepped s i n id me.1 a.0 a.1)) (same (Rattle.std.specs.Prelude.slice_index s.words i)) a.3,
    more (Rattle.std.specs.Prelude.slice_index s.words i) _ a.4,
  )

-- a word that is exchanged 0 for 0 stays
pub stays : (n : ℕ) → n ≡ either (eqb n 0) 0 n
stays zero = refl
stays (suc n) = ap (λ (b : Bool). either b 0 (suc n)) (sym (eqb-suc-zero n))

-- ## The number of a half whose bytes go the way of its link

module _ (p : Plan) (ways : List (List ℕ)) (o : OutState) (k : ℕ) where
  pub own_number : number_in p ways o ≡ k → k < p.links → (o.link ≡ k) × (o.way ≡ way_at ways k)
  own_number is low = by_test (bytes_eq (way_at ways o.link) o.way) refl
    where
      by_test : (b : Bool) → bytes_eq (way_at ways o.link) o.way ≡ b → (o.link ≡ k) × (o.way ≡ way_at ways k)
      by_test true same = let link : o.link ≡ k = sym (ap (λ b. cond b o.link p.links) same) ∙ is in (link, sym ((bytes_eq-Decides (way_at ways o.link) o.way).0 same) ∙ ap (way_at ways) link)
      by_test false other = let q : p.links ≡ k = sym (ap (λ b. cond b o.link p.links) other) ∙ is in absurd (omega arith)

  pub is_number : o.link ≡ k → o.way ≡ way_at ways k → number_in p ways o ≡ k
  is_number link way = ap (λ b. cond b o.link p.links) ((bytes_eq-Decides (way_at ways o.link) o.way).1 (ap (way_at ways) link ∙ sym way)) ∙ link

-- ## Messages show what they show without a key

abbrev no_letter : Home → ℕ
no_letter (home.Message l b) = 0
no_letter _ = 1

module _ {O : Type 0} {g : Ghosts O} where
  took_alike : (p : Plan) (ways : List (List ℕ)) (y : SockHome O g) → took_in (shows_in p ways y) ≡ took_in (shows y)
  took_alike p ways Empty = refl
  took_alike p ways (Link h) = refl
  took_alike p ways (Message m) = refl
  took_alike p ways (Ways w) = refl

  filled_alike : (p : Plan) (ways : List (List ℕ)) (c : Claim) (k : ℕ) (y : SockHome O g) → filled_with c k (shows_in p ways y) ≡ filled_with c k (shows y)
  filled_alike p ways c k Empty = refl
  filled_alike p ways c k (Link h) = refl
  filled_alike p ways c k (Message m) = refl
  filled_alike p ways c k (Ways w) = refl

  letter_alike : (p : Plan) (ways : List (List ℕ)) (y : SockHome O g) (l : Heading) (b : List ℕ) → shows_in p ways y ≡ home.Message l b → shows y ≡ home.Message l b
  letter_alike p ways Empty l b e = e
  letter_alike p ways (Link h) l b e = let a = ap no_letter e in absurd (omega arith)
  letter_alike p ways (Message m) l b e = e
  letter_alike p ways (Ways w) l b e = e

  module _ (p : Plan) (ways : List (List ℕ)) (slots id x : ℕ) (me : Me (SockHome O g) View) (holds : State (SockHome O g) View → Type 0) where
    pub fills_alike : Allows holds slots id me x (λ n. n) (fill_told (shows_in p ways) (step slots x 0 0 none) me) → Allows holds slots id me x (λ n. n) (fill_told shows (step slots x 0 0 none) me)
    fills_alike = allows_alike holds slots id x me (λ n. n) (λ n. n) (fill_told (shows_in p ways) (step slots x 0 0 none) me) (fill_told shows (step slots x 0 0 none) me) (λ n. refl)
        (λ found n t c y i h claim top at held. let a = t c y i h claim top at held in (a.0 ∙ ap (λ (d : Claim). (with_claim (met_link i h found me.0) d, Rattle.atomic_table.specs.Table.rest me.1)) (filled_alike p ways c found y.1), a.1, a.2))

    pub letters_alike : Allows holds slots id me x (λ n. n) (take_letter_told (shows_in p ways) (step slots x 0 0 none) me) → Allows holds slots id me x (λ n. n) (take_letter_told shows (step slots x 0 0 none) me)
    letters_alike = allows_alike holds slots id x me (λ n. n) (λ n. n) (take_letter_told (shows_in p ways) (step slots x 0 0 none) me) (take_letter_told shows (step slots x 0 0 none) me) (λ n. refl)
        (λ found n t r now one stage. let a = t r now one stage in record {
          value = a.value;
          heading = a.heading;
          bytes = a.bytes;
          shown = letter_alike p ways a.value a.heading a.bytes a.shown;
          label_in = a.label_in;
          few = a.few;
          view = a.view;
          slots = a.slots;
        })

    pub drops_alike : (value : ℕ) → Allows holds slots id me x (λ _. value) (λ _. drop_told (shows_in p ways) (step slots x value 0 none) me value) → Allows holds slots id me x (λ _. value) (λ _. drop_told shows (step slots x value 0 none) me value)
    drops_alike value = allows_alike holds slots id x me (λ _. value) (λ _. value) (λ _. drop_told (shows_in p ways) (step slots x value 0 none) me value) (λ _. drop_told shows (step slots x value 0 none) me value) (λ n. refl)
        (λ found n t r now y one stage top. t r now y one stage top ∙ ap (λ (took : List ℕ). (dropped_at x value r.heading (with_right me.0 (dropped_right r now took)), me.1)) (took_alike p ways y.1))

  -- ## A step that takes a link

  said_same : (a b : List (List ℕ)) (y : SockHome O g) → SaysWays a y → SaysWays b y → a ≡ b
  said_same a b Empty h q = absurd h
  said_same a b (Link l) h q = absurd h
  said_same a b (Message m) h q = absurd h
  said_same a b (Ways w) h q = sym h ∙ q

  module _ (p : Plan) (ways : List (List ℕ)) (slots id x : ℕ) (me : Me (SockHome O g) View) (holds : State (SockHome O g) View → Type 0) (mine : me.0.plan ≡ p) (said : SockHome O g) (says : SaysWays ways said) where
    by_said : (Told : (SockHome O g → Home) → Type 0) → Told (shows_in p ways) → (also : List (List ℕ)) → SaidWays also (some said) → Told (shows_in me.0.plan also)
    by_said Told t also h = let same = said_same ways also said says h in subst (λ (q : Plan). Told (shows_in q also)) (sym mine) (subst (λ (w : List (List ℕ)). Told (shows_in p w)) same t)

    pub owns_said : Allows holds slots id me x (λ n. n) (take_own_told (shows_in p ways) rose (step slots x 0 0 none) me) → Allows holds slots id me x (λ n. either (eqb n 0) 0 n) (take_own_said (step slots x 0 0 (some said)) me)
    owns_said = allows_alike holds slots id x me (λ n. n) (λ n. either (eqb n 0) 0 n) (take_own_told (shows_in p ways) rose (step slots x 0 0 none) me) (take_own_said (step slots x 0 0 (some said)) me) stays
        (λ found n t. by_said (λ f. take_own_told f rose (step slots x 0 0 none) me found n) t)

    pub lasts_said : Allows holds slots id me x (λ n. n) (take_last_told (shows_in p ways) rose (step slots x 0 0 none) me) → Allows holds slots id me x (λ n. either (eqb n 0) 0 n) (take_last_said (step slots x 0 0 (some said)) me)
    lasts_said = allows_alike holds slots id x me (λ n. n) (λ n. either (eqb n 0) 0 n) (take_last_told (shows_in p ways) rose (step slots x 0 0 none) me) (take_last_said (step slots x 0 0 (some said)) me) stays
        (λ found n t. by_said (λ f. take_last_told f rose (step slots x 0 0 none) me found n) t)

    pub spends_said : Allows holds slots id me x (λ n. n) (spend_told (shows_in p ways) rose (step slots x 0 0 none) me) → Allows holds slots id me x (λ n. either (eqb n 0) 0 n) (spend_said (step slots x 0 0 (some said)) me)
    spends_said = allows_alike holds slots id x me (λ n. n) (λ n. either (eqb n 0) 0 n) (spend_told (shows_in p ways) rose (step slots x 0 0 none) me) (spend_said (step slots x 0 0 (some said)) me) stays
        (λ found n t. by_said (λ f. spend_told f rose (step slots x 0 0 none) me found n) t)
