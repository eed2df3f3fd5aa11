-- What steps leave of the codes and of the homes of requests.
use Rattle.std.proofs.Common.{◌≡◌, ◌≢◌, ℕ, ◌+◌, ◌*◌, ◌%◌, ◌<◌, ◌≤◌, List, ◌∷◌, cond, eq-eqb, ne_eqb, refl, length, get_or, set, get_or-set_same, get_or-set_other, sym, ap, ◌∙◌, subst, arith}
use mathlib.Core.Logic.{dite}
use mathlib.Core.Option.{Option, none, some}
use native.Mathlib.Decide.{ℕ_discrete}
use lib.ListN.{get_elem?}
use lib.Seq.{set-get_or}
use Rattle.atomic_table.proofs.Lists.{set_else}
use Rattle.sock_words.specs.declared.plain.Plan.{Plan}
use Rattle.sock_model.specs.declared.view.StoredWord.{StoredWord}
use Rattle.sock_model.specs.Marks.{latest}
use Rattle.sock_model.specs.SocketTableLayout.{code_index, request_index, next_index, place_index}
use Rattle.chain_core.specs.sock_steps.proofs.Maps.{put, put-at, put-else, set_at}
use Rattle.sock_rule.specs.OnTable.{Settled}

module _ {S : Type 0} {p : Plan} {stored : List StoredWord} {placed : ℕ → ℕ} {ws : List ℕ} {hs : List (Option S)} (t : Settled p stored placed ws hs) where
  -- a word of a name or an operation stays where another is stored
  still_named : (x n : ℕ) → ((y : ℕ) → 6 * p.slots ≤ y → y < 6 * p.slots + p.names + p.operations → y ≢ x) → (y : ℕ) → 6 * p.slots ≤ y → y < 6 * p.slots + p.names + p.operations → get_or (set ws x n) y 0 ≡ latest y stored
  still_named x n other y high low = get_or-set_other ws x y n 0 (other y high low) ∙ t.names y high low

  -- and so does the word of a place index
  still_placed : (x n : ℕ) → ((l : ℕ) → place_index p l ≢ x) → (l : ℕ) → l < 8 * p.operations → get_or (set ws x n) (place_index p l) 0 ≡ placed l
  still_placed x n other l low = get_or-set_other ws x (place_index p l) n 0 (other l) ∙ t.places l low

  -- a word that is neither a code nor a request's, nor one of a name, an operation or a place index
  pub other_settled : (x n : ℕ) → ((i : ℕ) → i < p.slots → code_index i ≢ x) → ((r : ℕ) → r < p.requests → request_index p r ≢ x) → ((y : ℕ) → 6 * p.slots ≤ y → y < 6 * p.slots + p.names + p.operations → y ≢ x) → ((l : ℕ) → place_index p l ≢ x) → Settled p stored placed (set ws x n) hs
  other_settled x n code request other place = record {
    names = still_named x n other;
    places = still_placed x n place;
    codes = λ i il. subst (λ (y : ℕ). y < 4096) (sym (get_or-set_other ws x (code_index i) n 0 (code i il))) (t.codes i il);
    present = λ r rl even. t.present r rl (sym (ap (λ (y : ℕ). y % 2) (get_or-set_other ws x (request_index p r) n 0 (request r rl))) ∙ even);
  }

  -- a word of a slot, but for its code
  pub slot_settled : (x n : ℕ) → x < 6 * p.slots → ((i : ℕ) → code_index i ≢ x) → Settled p stored placed (set ws x n) hs
  slot_settled x n low code = other_settled x n (λ i il. code i) (λ r rl e. omega arith) (λ y yh yl e. omega arith) (λ l e. omega arith)

  -- a word of a name or an operation, which is then what was stored there last
  pub name_settled : (x n : ℕ) → 6 * p.slots ≤ x → x < 6 * p.slots + p.names + p.operations → x < length ws → Settled p (record { place = x; word = n } ∷ stored) placed (set ws x n) hs
  name_settled x n high low long = record {
    names = λ y yh yl. dite (ℕ_discrete y x)
        (λ e. subst (λ (z : ℕ). get_or (set ws x n) z 0 ≡ latest z (record { place = x; word = n } ∷ stored)) (sym e) (get_or-set_same ws x n 0 long ∙ sym (ap (λ b. cond b n (latest x stored)) (eq-eqb x x refl))))
        (λ ne. get_or-set_other ws x y n 0 ne ∙ (t.names y yh yl ∙ sym (ap (λ b. cond b n (latest y stored)) (ne_eqb x y (λ e. ne (sym e))))));
    places = still_placed x n (λ l e. omega arith);
    codes = λ i il. subst (λ (y : ℕ). y < 4096) (sym (get_or-set_other ws x (code_index i) n 0 (λ e. omega arith))) (t.codes i il);
    present = λ r rl even. t.present r rl (sym (ap (λ (y : ℕ). y % 2) (get_or-set_other ws x (request_index p r) n 0 (λ e. omega arith))) ∙ even);
  }

  -- a next word
  pub next_settled : (q n : ℕ) → q < p.requests → Settled p stored placed (set ws (next_index p q) n) hs
  next_settled q n low = other_settled (next_index p q) n (λ i il e. omega arith) (λ r rl e. omega arith) (λ y yh yl e. omega arith) (λ l e. omega arith)

  -- the word of a place index, which is looked at from then on; the note of it may be one of those that were stored
  pub place_settled : (l n : ℕ) (noted : List StoredWord) → ((y : ℕ) → y < 6 * p.slots + p.names + p.operations → latest y noted ≡ latest y stored) → place_index p l < length ws → Settled p noted (put placed l n) (set ws (place_index p l) n) hs
  place_settled l n noted same long = record {
    names = λ y yh yl. still_named (place_index p l) n (λ z zh zl e. omega arith) y yh yl ∙ sym (same y yl);
    places = λ m ml. dite (ℕ_discrete m l)
        (λ e. ap (λ (z : ℕ). get_or (set ws (place_index p l) n) (place_index p z) 0) e ∙ (get_or-set_same ws (place_index p l) n 0 long ∙ sym (put-at placed l m n e)))
        (λ ne. get_or-set_other ws (place_index p l) (place_index p m) n 0 (λ e. ne (omega arith)) ∙ (t.places m ml ∙ sym (put-else placed l m n ne)));
    codes = λ i il. subst (λ (y : ℕ). y < 4096) (sym (get_or-set_other ws (place_index p l) (code_index i) n 0 (λ e. omega arith))) (t.codes i il);
    present = λ r rl even. t.present r rl (sym (ap (λ (y : ℕ). y % 2) (get_or-set_other ws (place_index p l) (request_index p r) n 0 (λ e. omega arith))) ∙ even);
  }

  pub code_settled : (i n : ℕ) → i < p.slots → n < 4096 → code_index i < length ws → Settled p stored placed (set ws (code_index i) n) hs
  code_settled i n il fits long = record {
    names = still_named (code_index i) n (λ y yh yl e. omega arith);
    places = still_placed (code_index i) n (λ l e. omega arith);
    codes = λ j jl. dite (ℕ_discrete j i)
        (λ e. subst (λ (y : ℕ). get_or (set ws (code_index i) n) (code_index y) 0 < 4096) (sym e) (subst (λ (y : ℕ). y < 4096) (sym (get_or-set_same ws (code_index i) n 0 long)) fits))
        (λ ne. subst (λ (y : ℕ). y < 4096) (sym (get_or-set_other ws (code_index i) (code_index j) n 0 (λ e. ne (omega arith)))) (t.codes j jl));
    present = λ r rl even. t.present r rl (sym (ap (λ (y : ℕ). y % 2) (get_or-set_other ws (code_index i) (request_index p r) n 0 (λ e. omega arith))) ∙ even);
  }

  -- a word that is loaded stays
  pub load_settled : (x : ℕ) → Settled p stored placed (set ws x (get_or ws x 0)) hs
  load_settled x = subst (λ vs. Settled p stored placed vs hs) (sym (set-get_or ws x 0)) t

  -- the home of a link
  pub home_settled : (k : ℕ) (z : Option S) → p.requests ≤ k → Settled p stored placed ws (set hs k z)
  home_settled k z high = record {
    names = t.names;
    places = t.places;
    codes = t.codes;
    present = λ r rl even. let y = t.present r rl even in (y.0, set_else hs k r z (λ e. omega arith) ∙ y.1);
  }

  -- a request's home comes back, with any word
  pub back_settled : (r n : ℕ) (y : S) → r < p.requests → r < length hs → Settled p stored placed (set ws (request_index p r) n) (set hs r (some y))
  back_settled r n y low long = record {
    names = still_named (request_index p r) n (λ y yh yl e. omega arith);
    places = still_placed (request_index p r) n (λ l e. omega arith);
    codes = λ i il. subst (λ (z : ℕ). z < 4096) (sym (get_or-set_other ws (request_index p r) (code_index i) n 0 (λ e. omega arith))) (t.codes i il);
    present = λ q ql even. dite (ℕ_discrete q r)
        (λ e. (y, ap (get_elem? (set hs r (some y))) e ∙ set_at hs r (some y) long))
        (λ ne. let z = t.present q ql (sym (ap (λ (w : ℕ). w % 2) (get_or-set_other ws (request_index p r) (request_index p q) n 0 (λ e. ne (omega arith)))) ∙ even) in (z.0, set_else hs r q (some y) ne ∙ z.1));
  }

  pub home_back_settled : (r : ℕ) (y : S) → r < length hs → Settled p stored placed ws (set hs r (some y))
  home_back_settled r y long = record {
    names = t.names;
    places = t.places;
    codes = t.codes;
    present = λ q ql even. dite (ℕ_discrete q r) (λ e. (y, ap (get_elem? (set hs r (some y))) e ∙ set_at hs r (some y) long)) (λ ne. let z = t.present q ql even in (z.0, set_else hs r q (some y) ne ∙ z.1));
  }

  -- a request is taken, and its home goes
  pub taken_settled : (r n : ℕ) → r < p.requests → n % 2 ≡ 1 → request_index p r < length ws → Settled p stored placed (set ws (request_index p r) n) (set hs r none)
  taken_settled r n low odd long = record {
    names = still_named (request_index p r) n (λ y yh yl e. omega arith);
    places = still_placed (request_index p r) n (λ l e. omega arith);
    codes = λ i il. subst (λ (z : ℕ). z < 4096) (sym (get_or-set_other ws (request_index p r) (code_index i) n 0 (λ e. omega arith))) (t.codes i il);
    present = λ q ql even. dite (ℕ_discrete q r)
        (λ e. let w : get_or (set ws (request_index p r) n) (request_index p q) 0 ≡ n = subst (λ (y : ℕ). get_or (set ws (request_index p r) n) (request_index p y) 0 ≡ n) (sym e) (get_or-set_same ws (request_index p r) n 0 long) in let o = ap (λ (y : ℕ). y % 2) w in absurd (omega arith))
        (λ ne. let z = t.present q ql (sym (ap (λ (w : ℕ). w % 2) (get_or-set_other ws (request_index p r) (request_index p q) n 0 (λ e. ne (omega arith)))) ∙ even) in (z.0, set_else hs r q none ne ∙ z.1));
  }

  pub home_taken_settled : (r : ℕ) → get_or ws (request_index p r) 0 % 2 ≡ 1 → Settled p stored placed ws (set hs r none)
  home_taken_settled r odd = record {
    names = t.names;
    places = t.places;
    codes = t.codes;
    present = λ q ql even. dite (ℕ_discrete q r) (λ e. let w = ap (λ (y : ℕ). get_or ws (request_index p y) 0 % 2) e in absurd (omega arith)) (λ ne. let z = t.present q ql even in (z.0, set_else hs r q none ne ∙ z.1));
  }
