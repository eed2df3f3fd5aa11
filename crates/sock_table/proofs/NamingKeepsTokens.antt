-- Storing and finding words of names and operations changes no token.
use Rattle.std.proofs.Common.{◌≡◌, ◌≢◌, ℕ, ◌+◌, ◌-◌, ◌/◌, ◌%◌, ◌<◌, cond, eqb, ne_eqb, eq-eqb, List, [], ◌∷◌, refl, sym, ap, ◌∙◌, subst, arith}
use Rattle.atomic_table.specs.Table.{Me}
use Rattle.sock_words.specs.declared.plain.Plan.{Plan}
use Rattle.sock_words.specs.PackedWords.{socket_id_version, socket_id_slot, NO_SOCKET}
use Rattle.sock_model.specs.declared.marks.Mark.TheVariants.{Known}
use Rattle.sock_model.specs.declared.view.View.{View}
use Rattle.sock_model.specs.declared.view.StoredWord.{StoredWord}
use Rattle.sock_model.specs.MarkWeights.{is_known}
use Rattle.sock_model.specs.SlotRows.{marks_of, met}
use Rattle.sock_rule.specs.slot_steps.proofs.RuleNumbers.{only-same}
use Rattle.sock_rule.specs.MarksComeAndGo.{Became}
use Rattle.sock_rule.specs.NotesBesideRows.{IsHistory, FoundAt, put_at, finding, found_at}
use Rattle.sock_rule.proofs.MarksComeAndGo.{adds_mark}
use Rattle.sock_table.specs.ReferenceCalls.{IsBetween, SameTokens, Knows}
use Rattle.sock_table.specs.NamesStoredAndFound.{FindsId, FindsNothing}
use Rattle.sock_table.proofs.LifeMaking.{became_same}
use Rattle.sock_table.proofs.QuietBetweenCalls.{between}

pub put_between : (p : Plan) (x word : ℕ) (all : List StoredWord) (v w : View) → w ≡ put_at x word all v → IsBetween p v → IsBetween p w
put_between p x word all v w e b = subst (IsBetween p) (sym e) record { unclaimed = b.unclaimed; unprobed = b.unprobed; uncoding = b.uncoding; no_zero = b.no_zero; no_rights = b.no_rights; empty = b.empty; no_passes = b.no_passes }

pub put_same : (p : Plan) (x word : ℕ) (all : List StoredWord) (v w : View) → w ≡ put_at x word all v → SameTokens p v w
put_same p x word all v w e = subst (SameTokens p v) (sym e) record { refs = λ i il. refl; claims = refl; loose = refl; rights = refl; hands = refl; lists = refl; share = refl }

pub none_between : (p : Plan) (v w : View) → w ≡ v → IsBetween p v → IsBetween p w
none_between p v w e b = subst (IsBetween p) (sym e) b

pub none_same : (p : Plan) (v w : View) → w ≡ v → SameTokens p v w
none_same p v w e = subst (SameTokens p v) (sym e) record { refs = λ i il. refl; claims = refl; loose = refl; rights = refl; hands = refl; lists = refl; share = refl }

pub nothing_between : (p : Plan) (x word : ℕ) (all : List StoredWord) (v w : View) → w ≡ finding x word all v → IsBetween p v → IsBetween p w
nothing_between p x word all v w e b = subst (IsBetween p) (sym e) record { unclaimed = b.unclaimed; unprobed = b.unprobed; uncoding = b.uncoding; no_zero = b.no_zero; no_rights = b.no_rights; empty = b.empty; no_passes = b.no_passes }

pub nothing_same : (p : Plan) (x word : ℕ) (all : List StoredWord) (v w : View) → w ≡ finding x word all v → SameTokens p v w
nothing_same p x word all v w e = subst (SameTokens p v) (sym e) record { refs = λ i il. refl; claims = refl; loose = refl; rights = refl; hands = refl; lists = refl; share = refl }

module _ (p : Plan) (x id : ℕ) (v w : View) (d : FindsId x id v w) where
  known_more : Became (socket_id_slot id) v (met (socket_id_slot id) (socket_id_version id) v) (Known (socket_id_version id) ∷ []) []
  known_more = adds_mark (socket_id_slot id) (Known (socket_id_version id)) v

  pub id_between : IsBetween p v → IsBetween p w
  id_between b = nothing_between p x (id + 1) d.all (met (socket_id_slot id) (socket_id_version id) v) w d.view (between p (socket_id_slot id) v (met (socket_id_slot id) (socket_id_version id) v) _ _ b known_more record { claimed = refl; probe = refl; coding = refl; zeros = λ x. refl })

  pub id_same : SameTokens p v w
  id_same = let a = became_same p (socket_id_slot id) v (met (socket_id_slot id) (socket_id_version id) v) _ _ known_more refl in
      subst (SameTokens p v) (sym d.view) record { refs = a.refs; claims = refl; loose = refl; rights = refl; hands = refl; lists = refl; share = refl }

  pub id_known : socket_id_slot id < p.slots → Knows p w id
  id_known inside = record {
    inside = inside;
    known = subst (λ (y : View). 0 < marks_of (is_known (socket_id_version id)) (socket_id_slot id) y) (sym d.view) (let k = known_more.here (is_known (socket_id_version id)) in let s = only-same (socket_id_version id) in omega arith);
  }

-- what the load of a place tells, by the word that it found
module _ {S : Type 0} (x word : ℕ) (m n : Me S View) (told : FoundAt x word m n) where
  pub read_none : word ≡ 0 → n.0 ≡ m.0
  read_none e = ap (λ (y : Me S View). y.0) told.view ∙ ap (λ b. cond b m.0 (cond (eqb word 18446744073709551615) (finding x word told.all m.0) (finding x word told.all (met ((word - 1) % 4294967296) ((word - 1) / 4294967296) m.0)))) (eq-eqb word 0 e)

  pub read_nothing : word ≡ NO_SOCKET → FindsNothing x m.0 n.0
  read_nothing e = record { all = told.all; view = ap (λ (y : Me S View). y.0) told.view ∙ ap (λ (z : ℕ). found_at x z told.all m.0) e; history = subst (λ (z : ℕ). IsHistory x z m.0 told.all) e told.history }

  pub read_id : word ≢ 0 → word ≢ NO_SOCKET → (id : ℕ) → id ≡ word - 1 → FindsId x id m.0 n.0
  read_id some_ an_id id e = let is : word ≡ id + 1 = omega arith in record {
    all = told.all;
    history = subst (λ (z : ℕ). IsHistory x z m.0 told.all) is told.history;
    view = ap (λ (y : Me S View). y.0) told.view
        ∙ (ap (λ b. cond b m.0 (cond (eqb word 18446744073709551615) (finding x word told.all m.0) (finding x word told.all (met ((word - 1) % 4294967296) ((word - 1) / 4294967296) m.0)))) (ne_eqb word 0 some_)
        ∙ (ap (λ b. cond b (finding x word told.all m.0) (finding x word told.all (met ((word - 1) % 4294967296) ((word - 1) / 4294967296) m.0))) (ne_eqb word 18446744073709551615 an_id)
        ∙ (let f : word ≡ id + 1 = omega arith in (λ i. finding x (f i) told.all (met (sym e i % 4294967296) (sym e i / 4294967296) m.0)))));
  }

  pub read_slots : n.1 ≡ m.1
  read_slots = ap (λ (y : Me S View). y.1) told.view
