-- The law of all slots together, of links as far as slots go, and of the words that name lives.
use Rattle.std.specs.Prelude.{◌≡◌, ◌≢◌, ℕ, ◌+◌, ◌-◌, ◌<◌, ◌≤◌, map, length, slice_index}
use Rattle.atomic_table.specs.Table.{State}
use Rattle.sock_model.specs.declared.marks.SlotMark.{SlotMark}
use Rattle.sock_model.specs.declared.view.View.{View}
use Rattle.sock_words.specs.declared.plain.Plan.{Plan}
use Rattle.sock_model.specs.MarkWeights.{only, is_born, uses}
use Rattle.sock_model.specs.Marks.{about, says}
use Rattle.sock_model.specs.SocketTableLayout.{tag_index, ref_index, link_index, code_index, name_index, open_index, all_words}
use Rattle.sock_model.specs.SocketSlotLaw.{SlotFacts, live, count, SlotLaw}
use Rattle.sock_words.specs.PackedWords.{vref_version, vref_nref, socket_id_slot, socket_id_version, NO_SOCKET}
use Rattle.sock_words.specs.Totals.{total}

-- how far the link k is used by this mark
abbrev pub uses_link : ℕ → SlotMark → ℕ
uses_link k e = uses k e.mark

abbrev pub spare : View → ℕ
spare v = v.spare

-- how many of its lists end with the word w for the place x
abbrev pub sayers : ℕ → ℕ → View → ℕ
sayers x w v = total (says x w) v.stores

-- the view w is v but for its marks and passes
abbrev pub OnlyMarks : View → View → Type 0
OnlyMarks v w = let u : View = record v { marks = w.marks; passes = w.passes } in w ≡ u

-- a link has one pass or one slot's life
abbrev pub uses_of : ℕ → View → ℕ
uses_of k v = total (only k) v.passes + total (uses_link k) v.marks

module _ {S : Type 0} where
  -- what the rule reads of slot i
  abbrev pub slot_facts : State S View → ℕ → SlotFacts
  slot_facts s i = record {
    tag = slice_index s.words (tag_index i);
    version = vref_version (slice_index s.words (ref_index i));
    nref = vref_nref (slice_index s.words (ref_index i));
    link = slice_index s.words (link_index i);
    code = slice_index s.words (code_index i);
    marks = map (λ v. about i v.marks) s.views;
  }

  -- the word is 0, or one more than the id of a life that was made
  abbrev pub Names : Plan → State S View → ℕ → Type 0
  Names p s w = w ≢ 0 → (socket_id_slot (w - 1) < p.slots) × (0 < count (is_born (socket_id_version (w - 1))) (slot_facts s (socket_id_slot (w - 1))))

  -- a word that is not 0 is what one of the seats stored there last
  abbrev pub Stores : State S View → ℕ → Type 0
  Stores s x = let w = slice_index s.words x in w ≢ 0 → 0 < total (sayers x w) s.views

  -- the words of names and of operations' opens
  pub record NamedWords (p : Plan) (s : State S View) : Type 0 where
    -- each is the id of a life that was born
    pub names : (n : ℕ) → n < p.names → Names p s (slice_index s.words (name_index p n))
    pub opens : (o : ℕ) → o < p.operations → slice_index s.words (open_index p o) ≢ NO_SOCKET → Names p s (slice_index s.words (open_index p o))
    -- and what one of the seats stored there last
    pub names_by : (n : ℕ) → n < p.names → Stores s (name_index p n)
    pub opens_by : (o : ℕ) → o < p.operations → Stores s (open_index p o)

  -- all of the words but those of the chains, and all marks, passes and stores
  pub record References (p : Plan) (s : State S View) : Type 0 where
    -- there are as many words as the plan wants
    pub sized : length s.words ≡ all_words p
    -- the seats that there are and may be
    pub seat_limit : length s.views + total spare s.views ≤ 512
    -- each slot meets its law
    pub slots : (i : ℕ) → i < p.slots → SlotLaw p.first (live (slot_facts s i)) (slot_facts s i)
    -- each link has one pass, one claim or one life at most
    pub links : (k : ℕ) → total (uses_of k) s.views ≤ 1
    -- what names lives
    pub named : NamedWords p s
