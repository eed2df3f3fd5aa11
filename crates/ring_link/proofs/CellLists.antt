-- The bytes and the mark of a list of cells.
use Rattle.std.proofs.Common.{◌≡◌, ◌≢◌, ℕ, ◌<◌, List, [], ◌∷◌, ◌++◌, length, map, take, drop, drop-cons, get_or, suc, refl, ap, sym, ◌∙◌, subst, rules}
use Rattle.std.proofs.lemmas.List.{append-nil, map-append, take-append-drop, take-map}
use Rattle.sock_io.specs.declared.ending.Ending.{Ending}
use Rattle.sock_io.specs.declared.ending.Ending.TheVariants as ending
use Rattle.ring_link.specs.declared.cell.Cell.{Cell}
use Rattle.ring_link.specs.declared.cell.Cell.TheVariants as cell
use Rattle.ring_link.specs.RingHalves.{IsTakenOf, Ring}
use Rattle.ring_link.specs.Cells.{bytes_of, ending_of, mark_cells, cells_of}

pub bytes-map : (bs : List ℕ) (cells : List Cell) → bytes_of (map cell.Byte bs ++ cells) ≡ bs ++ bytes_of cells
bytes-map [] cells = refl
bytes-map (b ∷ bs) cells = ap (λ t. b ∷ t) (bytes-map bs cells)

pub ending-map : (bs : List ℕ) (cells : List Cell) → ending_of (map cell.Byte bs ++ cells) ≡ ending_of cells
ending-map [] cells = refl
ending-map (b ∷ bs) cells = ending-map bs cells

-- behind no mark
pub bytes-append : (xs ys : List Cell) → ending_of xs ≡ ending.Open → bytes_of (xs ++ ys) ≡ bytes_of xs ++ bytes_of ys
bytes-append [] ys e = refl
bytes-append (cell.Byte b ∷ xs) ys e = ap (λ t. b ∷ t) (bytes-append xs ys e)
bytes-append (cell.Ended ∷ xs) ys e = search rules
bytes-append (cell.Closed ∷ xs) ys e = search rules

pub ending-append : (xs ys : List Cell) → ending_of xs ≡ ending.Open → ending_of (xs ++ ys) ≡ ending_of ys
ending-append [] ys e = refl
ending-append (cell.Byte b ∷ xs) ys e = ending-append xs ys e
ending-append (cell.Ended ∷ xs) ys e = search rules
ending-append (cell.Closed ∷ xs) ys e = search rules

-- behind a mark
pub bytes-marked : (xs ys : List Cell) → ending_of xs ≢ ending.Open → bytes_of (xs ++ ys) ≡ bytes_of xs
bytes-marked [] ys n = absurd (n refl)
bytes-marked (cell.Byte b ∷ xs) ys n = ap (λ t. b ∷ t) (bytes-marked xs ys n)
bytes-marked (cell.Ended ∷ xs) ys n = refl
bytes-marked (cell.Closed ∷ xs) ys n = refl

pub ending-marked : (xs ys : List Cell) → ending_of xs ≢ ending.Open → ending_of (xs ++ ys) ≡ ending_of xs
ending-marked [] ys n = absurd (n refl)
ending-marked (cell.Byte b ∷ xs) ys n = ending-marked xs ys n
ending-marked (cell.Ended ∷ xs) ys n = refl
ending-marked (cell.Closed ∷ xs) ys n = refl

-- ## What is put

abbrev pub IsWhole : List Cell → Type 0
IsWhole cells = cells ≡ cells_of (bytes_of cells) (ending_of cells)

open_whole : (xs : List Cell) → IsWhole xs → ending_of xs ≡ ending.Open → xs ≡ map cell.Byte (bytes_of xs)
open_whole xs w e = w ∙ ap (λ t. cells_of (bytes_of xs) t) e ∙ append-nil (map cell.Byte (bytes_of xs))

pub bytes_put : (xs : List Cell) (bs : List ℕ) → ending_of xs ≡ ending.Open → bytes_of (xs ++ map cell.Byte bs) ≡ bytes_of xs ++ bs
bytes_put xs bs e =
    bytes-append xs (map cell.Byte bs) e ∙ ap (λ t. bytes_of xs ++ t) (ap bytes_of (sym (append-nil (map cell.Byte bs))) ∙ bytes-map bs [] ∙ append-nil bs)

pub ending_put : (xs : List Cell) (bs : List ℕ) → ending_of xs ≡ ending.Open → ending_of (xs ++ map cell.Byte bs) ≡ ending.Open
ending_put xs bs e = ending-append xs (map cell.Byte bs) e ∙ ap ending_of (sym (append-nil (map cell.Byte bs))) ∙ ending-map bs []

pub whole_put : (xs : List Cell) (bs : List ℕ) → IsWhole xs → ending_of xs ≡ ending.Open → IsWhole (xs ++ map cell.Byte bs)
whole_put xs bs w e =
    ap (λ t. t ++ map cell.Byte bs) (open_whole xs w e) ∙ sym (map-append cell.Byte (bytes_of xs) bs) ∙ sym (append-nil (map cell.Byte (bytes_of xs ++ bs)))
    ∙ sym (λ k. cells_of (bytes_put xs bs e k) (ending_put xs bs e k))

-- a mark behind bytes
pub bytes_shut : (xs : List Cell) (m : Ending) → ending_of xs ≡ ending.Open → bytes_of (xs ++ mark_cells m) ≡ bytes_of xs
bytes_shut xs ending.Open e = ap bytes_of (append-nil xs)
bytes_shut xs ending.Ended e = bytes-append xs (cell.Ended ∷ []) e ∙ append-nil (bytes_of xs)
bytes_shut xs ending.Closed e = bytes-append xs (cell.Closed ∷ []) e ∙ append-nil (bytes_of xs)

pub ending_shut : (xs : List Cell) (m : Ending) → ending_of xs ≡ ending.Open → ending_of (xs ++ mark_cells m) ≡ m
ending_shut xs ending.Open e = ap ending_of (append-nil xs) ∙ e
ending_shut xs ending.Ended e = ending-append xs (cell.Ended ∷ []) e
ending_shut xs ending.Closed e = ending-append xs (cell.Closed ∷ []) e

pub whole_shut : (xs : List Cell) (m : Ending) → IsWhole xs → ending_of xs ≡ ending.Open → IsWhole (xs ++ mark_cells m)
whole_shut xs m w e = ap (λ t. t ++ mark_cells m) (open_whole xs w e) ∙ sym (λ k. cells_of (bytes_shut xs m e k) (ending_shut xs m e k))

-- bytes may be put wherever no mark stands
pub each_open : (xs : List Cell) (bs : List ℕ) (i : ℕ) → ending_of xs ≡ ending.Open → ending_of (xs ++ take i (map cell.Byte bs)) ≡ ending.Open
each_open xs bs i e = ap (λ t. ending_of (xs ++ t)) (take-map cell.Byte i bs) ∙ ending_put xs (take i bs) e

-- ## What is taken

-- a front part of the cells is bytes, and behind it stands this one
cells_at : (cells : List Cell) (bs : List ℕ) (i : ℕ) (d m : Cell) → i < length cells → take i cells ≡ map cell.Byte bs → get_or cells i d ≡ m → cells ≡ map cell.Byte bs ++ m ∷ drop (suc i) cells
cells_at cells bs i d m l e f = sym (take-append-drop i cells) ∙ (λ k. e k ++ drop-cons cells i d l k) ∙ ap (λ t. map cell.Byte bs ++ t ∷ drop (suc i) cells) f

pub bytes_at : (cells : List Cell) (bs : List ℕ) (i : ℕ) (d m : Cell) → i < length cells → take i cells ≡ map cell.Byte bs → get_or cells i d ≡ m → bytes_of cells ≡ bs ++ bytes_of (m ∷ drop (suc i) cells)
bytes_at cells bs i d m l e f = ap bytes_of (cells_at cells bs i d m l e f) ∙ bytes-map bs (m ∷ drop (suc i) cells)

pub ending_at : (cells : List Cell) (bs : List ℕ) (i : ℕ) (d m : Cell) → i < length cells → take i cells ≡ map cell.Byte bs → get_or cells i d ≡ m → ending_of cells ≡ ending_of (m ∷ drop (suc i) cells)
ending_at cells bs i d m l e f = ap ending_of (cells_at cells bs i d m l e f) ∙ ending-map bs (m ∷ drop (suc i) cells)

-- all of them are bytes
pub bytes_all : (cells : List Cell) (bs : List ℕ) → cells ≡ map cell.Byte bs → bytes_of cells ≡ bs
bytes_all cells bs e = ap bytes_of (e ∙ sym (append-nil (map cell.Byte bs))) ∙ bytes-map bs [] ∙ append-nil bs

pub ending_all : (cells : List Cell) (bs : List ℕ) → cells ≡ map cell.Byte bs → ending_of cells ≡ ending.Open
ending_all cells bs e = ap ending_of (e ∙ sym (append-nil (map cell.Byte bs))) ∙ ending-map bs []

-- neither a byte nor a mark
pub no_cells : (cells : List Cell) → length (bytes_of cells) ≡ 0 → ending_of cells ≡ ending.Open → cells ≡ []
no_cells [] n e = refl
no_cells (cell.Byte b ∷ cells) n e = search rules
no_cells (cell.Ended ∷ cells) n e = search rules
no_cells (cell.Closed ∷ cells) n e = search rules

-- ## What was taken of what was put

taken_or_marked : (got left : List Cell) (r w : Ring) (seen : List Cell) (places : ℕ) (m : Ending) → ending_of got ≡ m
    → IsTakenOf (record { ring = r; bytes = bytes_of got; ending = m; seen = seen }) (record { ring = w; bytes = bytes_of (got ++ left); ending = ending_of (got ++ left); places = places })
taken_or_marked got left r w seen places ending.Open e = record { left = bytes_of left; begins = bytes-append got left e; marked = λ n. absurd (n refl) }
taken_or_marked got left r w seen places ending.Ended e =
    let n : ending_of got ≢ ending.Open = λ o. search (rules, sym e ∙ o) in
    record { left = []; begins = bytes-marked got left n ∙ sym (append-nil (bytes_of got)); marked = λ _. (ending-marked got left n ∙ e, refl) }
taken_or_marked got left r w seen places ending.Closed e =
    let n : ending_of got ≢ ending.Open = λ o. search (rules, sym e ∙ o) in
    record { left = []; begins = bytes-marked got left n ∙ sym (append-nil (bytes_of got)); marked = λ _. (ending-marked got left n ∙ e, refl) }

pub taken_of : (got left all : List Cell) (r w : Ring) (places : ℕ) → got ++ left ≡ all
    → IsTakenOf (record { ring = r; bytes = bytes_of got; ending = ending_of got; seen = left }) (record { ring = w; bytes = bytes_of all; ending = ending_of all; places = places })
taken_of got left all r w places e =
    subst (λ t. IsTakenOf (record { ring = r; bytes = bytes_of got; ending = ending_of got; seen = left }) (record { ring = w; bytes = bytes_of t; ending = ending_of t; places = places })) e
    (taken_or_marked got left r w left places (ending_of got) refl)
