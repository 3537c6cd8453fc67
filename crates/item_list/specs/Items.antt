-- The items of a batch's list as the code finds them: by their places.
use Rattle.std.specs.Prelude.{ℕ, ◌+◌, ◌-◌, ◌≤◌, List, length, take, drop, get_or, Option, Some, None}
use Rattle.register.specs.Records.{Ask, ask_of, item_head, operation_word, extract_word, delivery_word}
use Rattle.register.specs.Batch.{NextItem, no_item, cut_item, whole_item}

-- where the item at a place ends, if it is whole
abbrev pub item_end : (at : ℕ) → NextItem → Option ℕ
item_end at no_item = None
item_end at cut_item = None
item_end at (whole_item k rest) = Some (at + item_head + length k.proof)

-- what an item asks that stands at a place and ends at another
abbrev pub ask_at : (day : ℕ) → List ℕ → (at end : ℕ) → Ask
ask_at day ws at end =
    ask_of (get_or ws (at + operation_word) 0) (get_or ws (at + extract_word) 0) (get_or ws (at + delivery_word) 0) day
    (take (end - (at + item_head)) (drop (at + item_head) ws))

-- its head words are before its end, and the end is within the list
abbrev pub ItemWithin : List ℕ → (at end : ℕ) → Type 0
ItemWithin ws at end = (at + item_head ≤ end) × (end ≤ length ws)
