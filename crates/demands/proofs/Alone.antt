-- Each card on a pair for itself: with room for every reply its replies, picked out of all, its values and its card are those that a run
-- of its own would leave. Assumes nothing.
use Rattle.card.specs.declared.Took.{Took}
use mathlib.Core.Path.{◌≡◌, sym, ap, ◌∙◌, subst}
use mathlib.Core.Bool.{true}
use mathlib.Core.List.{List, [], ◌∷◌, ◌++◌}
use Prim.Native.Nat.{ℕ, ◌≤◌, ◌<◌}
use native.Mathlib.Omega.{arith}
use lib.IntN.{ℤ}
use lib.ListN.{length, get_or, get_or-map}
use Rattle.wire.specs.Word.{valid_words}
use Rattle.act.specs.declared.Setup.{Setup}
use Rattle.card.specs.declared.Card.{Card}
use Rattle.card.specs.Run.{Played}
use Rattle.card.specs.Turn.{Instrument, hears}
use Rattle.card.specs.Calls as card
use Rattle.card.proofs.Turns.{turn_card}
use Rattle.card.proofs.Runs.{all, all_end, all_word}
use Rattle.bus.specs.Bus.{instruments, cards_in, values_in, hears_all}
use Rattle.bus.specs.Calls.{After}
use Rattle.bus.proofs.Instruments.{instrument_count, instrument_at, values_at}
use Rattle.bus.proofs.Sharing.{hears_count, hears_at, run_count, run_at}
use Rattle.demands.specs.Terms.{replies}
use Rattle.demands.specs.Bus.{SoundTogether, values_of, replies_of, picked, Alone, EachAlone}
use Rattle.demands.proofs.Recordings as single
use Rattle.demands.proofs.Pair.{Joint, sound-at, starts_joint, word_joint, all_joint, whole, all-replies, ends, served, outcome, bytes_written}
use Rattle.demands.proofs.Picked.{picked_none, picked_word}

-- of all replies those of the k-th card are picked out
picked_run : (bench maker : List ℤ) (is : List Instrument) (ws : List ℕ) (k : ℕ) (d : Instrument) → Joint bench maker is → k < length is
    → picked (get_or is k d).card.setup (all (hears_all bench maker) is ws).bytes ≡ (all (hears bench maker) (get_or is k d) ws).bytes
picked_run bench maker is [] k d s l = rw (all_end (hears_all bench maker) is, all_end (hears bench maker) (get_or is k d)) (picked_none (get_or is k d).card.setup)
picked_run bench maker is (w ∷ ws) k d s l =
    let i = get_or is k d in
    let js = (hears_all bench maker is w).state in
    let j = (hears bench maker i w).state in
    let bs = (all (hears_all bench maker) js ws).bytes in
    let set = ap (λ (c : Card). c.setup) (turn_card bench maker i.card i.values w) in
    let later : picked j.card.setup bs ≡ (all (hears bench maker) j ws).bytes
    = subst (λ (x : Instrument). picked x.card.setup bs ≡ (all (hears bench maker) x ws).bytes) (hears_at bench maker is w k d l)
    (picked_run bench maker js ws k d (word_joint bench maker is w s) (omega (arith, hears_count bench maker is w))) in
    rw (all_word (hears_all bench maker) is w ws, all_word (hears bench maker) i w ws)
    (picked_word bench maker is w k d bs s l ∙ ap (λ (xs : List ℕ). (hears bench maker i w).reply ++ xs) (ap (λ (u : Setup). picked u bs) (sym set) ∙ later))

module _ (bench maker : List ℤ) (cs : List Card) (values : List ℤ) (s : SoundTogether bench maker cs values) (ws out : List ℕ) (v : valid_words ws ≡ true) (h : length (replies_of bench maker cs values ws) ≤ length out) where
  abbrev played : Played (List Instrument)
  played = ends bench maker cs values s ws

  abbrev many : ℕ
  many = length (replies_of bench maker cs values ws)

  written : length played.bytes ≡ many
  written = ap length (all-replies bench maker (instruments cs values) ws)

  -- the k-th card, in a run of its own
  module _ (own : List ℕ) (k : ℕ) (d : Card) (l : k < length cs) (h' : length (replies bench maker (get_or cs k d) (values_of k values) ws) ≤ length own) where
    abbrev its : Instrument
    its = record { card = get_or cs k d; values = values_of k values }

    -- behind the last
    abbrev behind : Instrument
    behind = record { card = d; values = [] }

    within : k < length (instruments cs values)
    within = omega (arith, instrument_count cs values)

    starts : get_or (instruments cs values) k behind ≡ its
    starts = instrument_at cs values k d behind l

    stands : get_or played.state k behind ≡ (all (hears bench maker) its ws).state
    stands = run_at bench maker (instruments cs values) ws k behind within ∙ ap (λ (i : Instrument). (all (hears bench maker) i ws).state) starts

    own_replies : picked its.card.setup played.bytes ≡ (all (hears bench maker) its ws).bytes
    own_replies =
        subst (λ (i : Instrument). picked i.card.setup played.bytes ≡ (all (hears bench maker) i ws).bytes) starts
        (picked_run bench maker (instruments cs values) ws k behind (starts_joint bench maker cs values s) within)

    own_values : values_of k (values_in played.state) ≡ (all (hears bench maker) its ws).state.values
    own_values =
        let sound = all_joint bench maker (instruments cs values) ws (starts_joint bench maker cs values s) in
        values_at played.state k behind (whole bench maker played.state sound) (omega (arith, within, run_count bench maker (instruments cs values) ws))
        ∙ ap (λ (i : Instrument). i.values) stands

    own_card : get_or (cards_in played.state) k d ≡ (all (hears bench maker) its ws).state.card
    own_card = get_or-map (λ (i : Instrument). i.card) played.state k behind ∙ ap (λ (i : Instrument). i.card) stands

    as_alone : Alone bench maker cs values ws out own k d
    as_alone =
        let n = length (replies bench maker its.card its.values ws) in
        let b = ap length (single.all-replies bench maker its.card its.values ws) in
        let t = sound-at bench maker cs values s k d l in
        let all_left = served bench maker cs values s ws out many v written h in
        let left = single.served bench maker its.card its.values t ws own n v b h' in
        record {
          takes_all = single.outcome bench maker its.card its.values t ws own n v b h';
          same_replies =
              ap (picked its.card.setup) (bytes_written bench maker cs values s ws out many v written h)
              ∙ own_replies
              ∙ sym (single.bytes_written bench maker its.card its.values t ws own n v b h');
          same_values = ap (λ (a : After). values_of k a.values) all_left ∙ own_values ∙ sym (ap (λ (a : card.After Took). a.values) left);
          same_card = ap (λ (a : After). get_or a.cards k d) all_left ∙ own_card ∙ sym (ap (λ (a : card.After Took). a.card) left);
        }

pub each_alone : EachAlone
each_alone = record {
  takes_all = λ bench maker cs values ws out s v h. outcome bench maker cs values s ws out (many bench maker cs values s ws out v h) v (written bench maker cs values s ws out v h) h;
  alone = λ bench maker cs values ws out own k d s v h l h'. as_alone bench maker cs values s ws out v h own k d l h';
}
