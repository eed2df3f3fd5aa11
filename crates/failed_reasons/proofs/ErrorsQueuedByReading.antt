-- Whoever reads the links queues no errors but those with which calls end then.
use Rattle.std.proofs.Common.{◌≡◌, ℕ, ◌+◌, ◌*◌, ◌/◌, ◌<◌, ◌⊎◌, inl, inr, Bool, true, false, List, [], ◌∷◌, ◌++◌, flat_map, map, Some, None, refl, ap, ◌∙◌, subst, sym, arith}
use Rattle.std.specs.Prelude.{Option, nat_lt, if◌then◌else◌}
use Rattle.std.specs.List.{AllByRecursion}
use mathlib.Core.Logic.{dite}
use mathlib.Core.Option.{some}
use native.Mathlib.Decide.{dec_lt}
use lib.ListN.{get_elem?}
use Rattle.sock_words.specs.PackedWords.{at_word_attempt}
use Rattle.sock_words.specs.declared.plain.Plan as sizes
use Rattle.sock_words.specs.declared.socket_id.SocketId.{SocketId}
use Rattle.sock_model.specs.declared.view.View as sock_view
use Rattle.sock_io.specs.declared.link.Out.{Ghosts}
use Rattle.sock_io.specs.LinkHalves.{InState}
use Rattle.corr_core.specs.IdSlotWord.{code_of}
use Rattle.corr_core.specs.IdSlotLaw.{is_queued}
use Rattle.corr_core.specs.declared.marks.Note.{Note}
use Rattle.corr_core.specs.declared.marks.Noted.{Noted}
use Rattle.corr_core.specs.declared.marks.Plan.{Plan}
use Rattle.corr_core.specs.declared.marks.View.{View}
use Rattle.corr_core.proofs.NoteSums.{total_some}
use Rattle.corr_id.specs.id_rule.specs.LawfulIdTable.{notes_of}
use Rattle.sock_message.specs.Asked.{Asked}
use Rattle.corr_id.specs.SeatBehindIdCalls.{error_in}
use Rattle.corr_id.proofs.IdSeatSplits.{notes_append, total_append}
use Rattle.attempts_told.specs.Below.RpcReader.ReaderBooks.{Books}
use Rattle.attempts_told.specs.Below.RpcReader.PostingAtReadingEnd.{attempt_at}
use Rattle.attempts_told.specs.Below.RpcReader.How.{How}
use Rattle.attempts_told.specs.Below.RpcReader.HowVariants as how
use Rattle.attempts_told.specs.Below.RpcReader.LinkReading as reading
use Rattle.attempts_told.specs.Below.RpcReader.ReaderRunFromOpen.{is_starved, ReadLink, ReadIf}
use Rattle.attempts_told.specs.Below.RpcReader.CallsLeftAfterReading.{RestEnded}
use Rattle.attempts_told.specs.Below.CallRun.ReadersOfLinks.{LinkReader, nothing_read, IsReader}
use Rattle.attempts_told.specs.call_whys.specs.call_told.proofs.ListElementsByPlace.{all_at}
use Rattle.attempts_told.specs.call_whys.specs.call_told.proofs.ToldByReaders.{AllRead, link_read}
use Rattle.failed_reasons.proofs.FailedAttemptCodes.{IsReadCode}
use Rattle.failed_reasons.proofs.ReaderPosts.{Posts, frames_stay, rest_stays, posted_all}
use Rattle.failed_reasons.proofs.NotedErrorsInViews.{queued_in, Stays, same_stays}
use Rattle.sock_words.specs.Totals.{total}

-- each error that is noted as queued more has one of those codes
pub record Queues (v w : View Asked) : Type 0 where
  pub queued : (i first e : ℕ) → 0 < queued_in i first e w.notes → (0 < queued_in i first e v.notes) ⊎ IsReadCode (code_of e)

pub queues_then : (u v w : View Asked) → Queues u v → Queues v w → Queues u w
queues_then u v w a b = record { queued = λ i first e h. elim (b.queued i first e h) [ inl x ↦ a.queued i first e x | inr y ↦ inr y ] }

none_queued : (v w : View Asked) → Stays v w → Queues v w
none_queued v w s = record { queued = λ i first e h. inl (let a = s.queued i first e in omega (arith, a, h)) }

queues_same : (b b' : Books) → b' ≡ b → Queues b.view b'.view
queues_same b b' e = none_queued b.view b'.view (same_stays b.view b'.view (ap (λ (x : Books). x.view) e))

-- ## Codes

-- an attempt that is below 7 leaves the code
coded : (code n : ℕ) → n < 8 → (code * 8 + n) / 8 ≡ code
coded code n low = omega (arith, low)

pub code_at : (code w : ℕ) → code_of (error_in code (attempt_at w)) ≡ code
code_at code w = elim (nat_lt (at_word_attempt w) 7) as (λ (b : Bool). code_of (error_in code (if b then Some (at_word_attempt w) else None)) ≡ code) [ true ↦ coded code (at_word_attempt w) (omega arith) | false ↦ coded code 7 (omega arith) ]

-- memory was never wanting
pub loss_code : (h : How) → is_starved h ≡ false → IsReadCode (reading.code_of h)
loss_code how.Fault calm = inr refl
loss_code how.NoMemory calm = let k : true ≡ false = calm in absurd (cc)
loss_code other calm = inl refl

-- ## Posts and what is left

-- what a reader queues has its code
posts_queue : (q : Plan) (link code : ℕ) (v w : View Asked) → IsReadCode code → Posts q link code v w → Queues v w
posts_queue q link code v w loss a = record {
  queued = λ i first e h. elim (a.queued i first e h) [
    | inl x ↦ inl x
    | inr y ↦ inr (subst IsReadCode (sym (code_at code y.word) ∙ ap code_of y.error_is) loss)
  ];
}

pub rest_queues : (code : ℕ) (p : Plan) (os : List ℕ) (b b' : Books) → RestEnded p code os b b' → Queues b.view b'.view
rest_queues code p os b b' h = none_queued b.view b'.view (rest_stays code p os b b' h)

-- ## Links

-- a link was read to its end, and memory was wanting nowhere
link_queues : (q : Plan) (link : ℕ) (calls : List ℕ) (ending : Bool) (s t : InState) (b b' : Books) → ReadLink q link calls ending false s t b b' → Queues b.view b'.view
link_queues q link calls ending s t b b' r = let m = r.met in let met = r.read.met in
    queues_then b.view m.view b'.view (none_queued b.view m.view (frames_stay q.slots met.frames b m met.met)) (posts_queue q link (reading.code_of r.how) m.view b'.view (loss_code r.how (r.calm refl).1) (posted_all q link (reading.code_of r.how) calls m b' r.posted))

-- ## Over all seats

pub notes_flat : (i : ℕ) (f : Note Asked → ℕ) (vs : List (View Asked)) → total f (notes_of i (flat_map (λ (v : View Asked). v.notes) vs)) ≡ total (λ (v : View Asked). total f (notes_of i v.notes)) vs
notes_flat i f [] = refl
notes_flat i f (v ∷ vs) =
    let rest : List (Noted Asked) = flat_map (λ (w : View Asked). w.notes) vs in
    let a = ap (total f) (notes_append i v.notes rest) in let b = total_append f (notes_of i v.notes) (notes_of i rest) in let c = notes_flat i f vs in omega (arith, a, b, c)

-- one seat had what all these noted, and then read the links: whatever is noted as queued one of them noted so, or it has one of those codes
pub others_queued : (vs : List (View Asked)) (v w : View Asked) → v.notes ≡ flat_map (λ (x : View Asked). x.notes) vs → Queues v w → (i first e : ℕ) → 0 < queued_in i first e w.notes → (0 < total (λ (x : View Asked). queued_in i first e x.notes) vs) ⊎ IsReadCode (code_of e)
others_queued vs v w took q i first e h = elim (q.queued i first e h) [
  | inl own ↦ inl (let a = ap (queued_in i first e) took in let b = notes_flat i (is_queued first e) vs in omega (arith, a, b, own))
  | inr loss ↦ inr loss
]

-- ## Readers beside the clients

-- all that is noted there as queued has one of those codes
pub record QueuesRead (v : View Asked) : Type 0 where
  pub queued : (i first e : ℕ) → 0 < queued_in i first e v.notes → IsReadCode (code_of e)

if_queues : (q : Plan) (link : ℕ) (calls : List ℕ) (ending : Bool) (s t : InState) (o : Option SocketId) (v w : sock_view.View) (b b' : Books) → ReadIf q link calls ending false s t o v w b b' → Queues b.view b'.view
if_queues q link calls ending s t None v w b b' r = queues_same b b' r.2
if_queues q link calls ending s t (Some id) v w b b' r = link_queues q link calls ending s t b b' (link_read q link calls ending false s t id.0 v w b b' r)

module _ {O : Type 0} {g : Ghosts O} (p : sizes.Plan) (q : Plan) (calls : List ℕ) where
  pub reader_queues : (x : LinkReader g) → IsReader p q calls x → QueuesRead x.ids.me.0
  reader_queues x is =
      let all : Queues nothing_read.view x.ids.me.0 = subst (Queues nothing_read.view) (sym is.view_is) (if_queues q x.link calls false x.before x.behind is.ran.id is.ran.noted x.seat.me.0 nothing_read x.books is.ran.read) in
      record { queued = λ i first e h. elim (all.queued i first e h) [ inl none_ ↦ absurd (omega (arith, none_)) | inr loss ↦ loss ] }

  pub readers_queue : (xs : List (LinkReader g)) → AllRead p q calls xs → AllByRecursion QueuesRead (map (λ (x : LinkReader g). x.ids.me.0) xs)
  readers_queue [] a = tt
  readers_queue (x ∷ xs) a = (reader_queues x a.0, readers_queue xs a.1)

-- one seat had what these noted, and those who read links beside them, and then ended the calls that were left: whatever is noted as queued one of the first noted so, or one of the others
pub queued_beside : (vs rs : List (View Asked)) (v w : View Asked) → v.notes ≡ flat_map (λ (x : View Asked). x.notes) (vs ++ rs) → Stays v w → (i first e : ℕ) → 0 < queued_in i first e w.notes
    → (0 < total (λ (x : View Asked). queued_in i first e x.notes) vs) ⊎ ((j : ℕ) × (r : View Asked) × (get_elem? rs j ≡ some r) × (0 < queued_in i first e r.notes))
queued_beside vs rs v w took stays i first e h =
    let f : View Asked → ℕ = λ x. queued_in i first e x.notes in
    let a = ap (queued_in i first e) took in let b = notes_flat i (is_queued first e) (vs ++ rs) in let c = stays.queued i first e in let parts_ = total_append f vs rs in
    dite (dec_lt 0 (total f vs))
    (λ lt. inl lt)
    (λ none_. inr (let r = total_some f rs (omega (arith, h, a, b, c, parts_, none_)) in (r.0, r.1, r.2, r.3)))

-- one seat had what all these noted, and those who read links beside them, and then ended the calls that were left: whatever is noted as queued one of the first noted so, or it has one of those codes
pub others_beside : (vs rs : List (View Asked)) (v w : View Asked) → v.notes ≡ flat_map (λ (x : View Asked). x.notes) (vs ++ rs) → AllByRecursion QueuesRead rs → Queues v w → (i first e : ℕ) → 0 < queued_in i first e w.notes → (0 < total (λ (x : View Asked). queued_in i first e x.notes) vs) ⊎ IsReadCode (code_of e)
others_beside vs rs v w took read q i first e h =
    let f : View Asked → ℕ = λ x. queued_in i first e x.notes in
    elim (others_queued (vs ++ rs) v w took q i first e h) [
      | inl own ↦ dite (dec_lt 0 (total f vs))
          (λ lt. inl lt)
          (λ none_. let parts_ = total_append f vs rs in let r = total_some f rs (omega (arith, own, parts_, none_)) in inr ((all_at QueuesRead rs r.0 r.1 read r.2).queued i first e r.3))
      | inr loss ↦ inr loss
    ]
