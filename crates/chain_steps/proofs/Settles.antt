-- Once nobody has the right to write a link, its messages stand in order; and a link comes into a slot and leaves it.
use Rattle.std.proofs.Common.{◌≡◌, ℕ, ◌+◌, ◌<◌, leb, le-leb, List, [], length, sym, refl, ap, ◌∙◌, subst, arith}
use mathlib.Core.Option.{Option, none, some, some-injective, some-ne-none}
use lib.ListN.{get_elem?}
use Rattle.sock_model.specs.declared.chain.Entry.{Entry}
use Rattle.sock_model.specs.Entries.{on, nth}
use Rattle.sock_model.specs.ChainTokens.{Tokens}
use Rattle.sock_model.specs.RequestStates.{free_phase}
use Rattle.sock_model.specs.ChainMemory.{Memory}
use Rattle.sock_model.specs.LinkWritingState.{Standing, absent, idle, busy}
use Rattle.sock_model.specs.Chains.{Chains}
use Rattle.sock_model.specs.Deliveries.{no_place, one_place, Delivered}
use Rattle.sock_model.specs.Fifo.{IsFifo}
use Rattle.chain_steps.proofs.TicketLists.{Distinct, distinct_filter, at_length}
use Rattle.chain_steps.proofs.UntouchedByChainSteps.{Same, Changed, no_token, in_log}
use Rattle.chain_steps.proofs.ChainHeadSteps.{relinks}
use Rattle.chain_steps.proofs.Delivers.{le-leb-false}
use Rattle.sock_model.specs.sock_words.specs.PackedWords.{place_word, IDLE}

module _ {links requests labels : ℕ} {m : Memory} {t : Tokens} {log : List Entry} {freed places kept : ℕ → ℕ} {place : ℕ → ℕ} {home : ℕ → Option (List ℕ × ℕ)} {Failed : ℕ → Type 0}
    (s : Chains links requests m t log freed places) (d : Delivered links labels place home Failed t log places kept) where
  -- nobody writes link k
  pub all_placed : (k : ℕ) → k < links → t.rights k ≡ [] → (freed k ≡ length (on k log)) × (places k ≡ freed k)
  all_placed k kl gone = elim (s.standing k kl) [
    | absent h r f p ↦ (f, p)
    | idle h r f p ↦ (f, p)
    | busy r h q held ↦ absurd (no_token (t.rights k) r q gone)
  ]

  module _ (apart : Distinct (λ (e : Entry). e.heading.label.place) log) (small : (p : ℕ) (e : Entry) → get_elem? log p ≡ some e → e.heading.label.place < labels) where
    pub shown_as : (k i : ℕ) (e : Entry) → k < links → i < places k → get_elem? (on k log) i ≡ some e → place e.heading.label.place ≡ place_word (leb (kept k) i) k i
    shown_as k i e kl il g =
        let a = in_log s k i e g in elim (d.shown e.heading.label.place (small a.0 e a.1)) [
          | no_place z h ↦ absurd (h k i e kl il g refl)
          | one_place j l x jl ll gx is z ↦ (let b = in_log s j l x gx in
              let q : b.0 ≡ a.0 = apart b.0 a.0 x e b.1 a.1 is in
              let xe : x ≡ e = some-injective x e (sym b.1 ∙ (ap (λ y. get_elem? log y) q ∙ a.1)) in
              let jk : j ≡ k = sym b.2 ∙ (ap (λ (y : Entry). y.link) xe ∙ a.2) in
              let li : l ≡ i = distinct_filter (λ (e : Entry). e.heading.label.place) (λ (e : Entry). Rattle.std.proofs.Common.eqb e.link k) log apart l i x e (subst (λ y. get_elem? (on y log) l ≡ some x) jk gx) g is in
              z ∙ λ w. place_word (leb (kept (jk w)) (li w)) (jk w) (li w))
        ]

    pub settles : (k : ℕ) (took : List ℕ) (next : ℕ) → k < links → t.rights k ≡ [] → home k ≡ some (took, next) → IsFifo place k (on k log) (kept k) took
    settles k took next kl gone at = let a = all_placed k kl gone in let b = d.kept_fits k kl in record {
      count = omega arith;
      placed = λ i e g low. let n = at_length (on k log) i e g in shown_as k i e kl (omega arith) g ∙ ap (λ y. place_word y k i) (le-leb-false (kept k) i low);
      dropped = λ i e g high. let n = at_length (on k log) i e g in shown_as k i e kl (omega arith) g ∙ ap (λ y. place_word y k i) (le-leb (kept k) i high);
      took_is = (d.at_home k took next kl at).0;
    }

-- a link whose chain is empty comes into a slot, whose head is reset
module _ {links requests : ℕ} {m m' : Memory} {t t' : Tokens} {log : List Entry} {freed places : ℕ → ℕ} (s : Chains links requests m t log freed places) (k : ℕ) (kl : k < links) where
  pub comes_in : on k log ≡ [] → m.head k ≡ none → Changed links m.head m'.head k (some IDLE)
      → Same requests m.next m'.next → Same requests m.request m'.request → Same links t.rights t'.rights → Same requests t.claims t'.claims → Same requests t.loose t'.loose
      → Chains links requests m' t' log freed places
  comes_in empty was hd nx rq rt cl lo =
      let now : Standing m' t' k (on k log) (freed k) (places k) = elim (s.standing k kl) [
        | absent h r f p ↦ idle (hd.here ∙ ap (λ c. some (IDLE + nth c (length c))) (sym empty)) (rt k kl ∙ r) f p
        | idle h r f p ↦ absurd (some-ne-none _ (sym h ∙ was))
        | busy r h q held ↦ absurd (some-ne-none _ (sym h ∙ was))
      ] in
      relinks s k now (λ j jl ne. hd.else j jl ne) nx rq (λ j jl ne. rt j jl) cl lo (λ j jl ne. refl)

  -- a link that nobody writes leaves its slot
  pub goes_out : t.rights k ≡ [] → Changed links m.head m'.head k none
      → Same requests m.next m'.next → Same requests m.request m'.request → Same links t.rights t'.rights → Same requests t.claims t'.claims → Same requests t.loose t'.loose
      → Chains links requests m' t' log freed places
  goes_out gone hd nx rq rt cl lo =
      let now : Standing m' t' k (on k log) (freed k) (places k) = elim (s.standing k kl) [
        | absent h r f p ↦ absent hd.here (rt k kl ∙ r) f p
        | idle h r f p ↦ absent hd.here (rt k kl ∙ r) f p
        | busy r h q held ↦ absurd (no_token (t.rights k) r q gone)
      ] in
      relinks s k now (λ j jl ne. hd.else j jl ne) nx rq (λ j jl ne. rt j jl) cl lo (λ j jl ne. refl)

-- the chains of a new table, whose request words are 0
pub opens : (links requests : ℕ) (m : Memory) (t : Tokens) → ((k : ℕ) → m.head k ≡ none) → ((r : ℕ) → r < requests → m.request r ≡ 0)
    → ((k : ℕ) → t.rights k ≡ []) → ((r : ℕ) → t.claims r ≡ []) → ((r : ℕ) → t.loose r ≡ []) → Chains links requests m t [] (λ k. 0) (λ k. 0)
opens links requests m t hd rq rt cl lo = record {
  chained = λ k i e g. absurd (some-ne-none e (sym g));
  differ = λ p q d e g h same. absurd (some-ne-none d (sym g));
  sized = λ p e g. absurd (some-ne-none e (sym g));
  standing = λ k kl. absent (hd k) (rt k) refl refl;
  live = λ k i e late g. absurd (some-ne-none e (sym g));
  in_use = λ r rl. record { generation = 0; times = 0; small = omega arith; each_once = refl; phase = free_phase record { word = rq r rl; used = refl; unclaimed = cl r; still = lo r } };
}
