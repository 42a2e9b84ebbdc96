-- Many instruments on one pair, under one pair of sheets. Document 02, ticket 6: "One pair, one recording, many instruments, with one pair of
-- sheets for all and 128 values for each."
use Rattle.std.specs.Prelude.{List, [], ◌∷◌, ◌++◌, map, ℕ, zero, suc, ℤ, take, drop}
use Rattle.card.specs.declared.Card.{Card}
use Rattle.card.specs.Run.{Reaction}
use Rattle.card.specs.Turn.{Instrument, hears}

-- the first n parts of a list, of k elements each
unfoldable pub parts : {A : Type 0} → ℕ → ℕ → List A → List (List A)
parts k zero xs = []
parts k (suc n) xs = take k xs ∷ parts k n (drop k xs)

-- the lists one behind the other
unfoldable pub joined : {A : Type 0} → List (List A) → List A
joined [] = []
joined (xs ∷ xss) = xs ++ joined xss

-- the cards, each with its values: 128 for each, one card's behind the other's
unfoldable pub instruments : List Card → List ℤ → List Instrument
instruments [] values = []
instruments (c ∷ cs) values = record { card = c; values = take 128 values } ∷ instruments cs (drop 128 values)

abbrev pub cards_in : List Instrument → List Card
cards_in is = map (λ (i : Instrument). i.card) is

abbrev pub values_in : List Instrument → List ℤ
values_in is = joined (map (λ (i : Instrument). i.values) is)

-- "every word goes to every card": each takes its own turn, and their replies stand one behind the other
unfoldable pub hears_all : List ℤ → List ℤ → List Instrument → ℕ → Reaction (List Instrument)
hears_all bench maker [] w = record { state = []; reply = [] }
hears_all bench maker (i ∷ is) w =
    let r : Reaction Instrument = hears bench maker i w in
    let rs : Reaction (List Instrument) = hears_all bench maker is w in
    record { state = r.state ∷ rs.state; reply = r.reply ++ rs.reply }
