-- Which words ask for what?
use Rattle.std.specs.Prelude.{◌≡◌, ◌≤◌, ◌⊎◌, ℕ, List, [], ◌∷◌, codes, decimal}
use Rattle.lhg_gen.specs.Sizes.{IsSize}
use Rattle.lhg_cli.specs.declared.request.Request.{Request}
use Rattle.lhg_cli.specs.declared.request.Request.TheVariants.{Synth, Check, Run, Explain, Migrate, Lazy, Spoil, Reach, Gen}

-- the number of rounds where the words name none, and the largest that they may name
abbrev pub usual_budget : ℕ
usual_budget = 64

abbrev pub most_rounds : ℕ
most_rounds = 1000

-- n rounds are asked for: by the word alone, for the usual number, or by the word and n in decimal, from 1 to 1,000
abbrev pub AsksWithin : List ℕ → List (List ℕ) → ℕ → Type 0
AsksWithin word words n = ((words ≡ word ∷ []) × (n ≡ usual_budget)) ⊎ ((words ≡ word ∷ decimal n ∷ []) × (1 ≤ n) × (n ≤ most_rounds))

-- a controller is asked for, within n rounds
abbrev pub AsksSynth : List (List ℕ) → ℕ → Type 0
AsksSynth words n = AsksWithin (codes "synth") words n

-- what becomes of a state is asked for, within n rounds
abbrev pub AsksExplain : List (List ℕ) → ℕ → Type 0
AsksExplain words n = AsksWithin (codes "explain") words n

-- a controller that switches at the rim alone is asked for, within n rounds
abbrev pub AsksLazy : List (List ℕ) → ℕ → Type 0
AsksLazy words n = AsksWithin (codes "lazy") words n

-- how the plant wins from a state is asked for, within n rounds
abbrev pub AsksSpoil : List (List ℕ) → ℕ → Type 0
AsksSpoil words n = AsksWithin (codes "spoil") words n

-- where a plant can get is asked for, within n rounds
abbrev pub AsksReach : List (List ℕ) → ℕ → Type 0
AsksReach words n = AsksWithin (codes "reach") words n

-- the summary of a generated plant with k locations is asked for: `gen K`, K being k in decimal, from 1 to 64
abbrev pub AsksGen : List (List ℕ) → ℕ → Type 0
AsksGen words k = (words ≡ codes "gen" ∷ decimal k ∷ []) × IsSize k

-- what the words ask for
abbrev pub Asks : List (List ℕ) → Request → Type 0
Asks words (Synth n) = AsksSynth words n
Asks words Check = words ≡ codes "check" ∷ []
Asks words Run = words ≡ codes "run" ∷ []
Asks words (Explain n) = AsksExplain words n
Asks words Migrate = words ≡ codes "migrate" ∷ []
Asks words (Lazy n) = AsksLazy words n
Asks words (Spoil n) = AsksSpoil words n
Asks words (Reach n) = AsksReach words n
Asks words (Gen k) = AsksGen words k

-- the words are some that the program knows
abbrev pub AreKnown : List (List ℕ) → Type 0
AreKnown words = (r : Request) × Asks words r

-- what is answered from the input
abbrev pub NeedsInput : Request → Type 0
NeedsInput (Gen k) = ⊥
NeedsInput r = Unit {0}

-- the words ask for something that is answered from the input
abbrev pub AskForInput : List (List ℕ) → Type 0
AskForInput words = (r : Request) × Asks words r × NeedsInput r

-- the number of rounds that is asked for is from 1 to the largest
abbrev pub HasRounds : Request → Type 0
HasRounds (Synth n) = (1 ≤ n) × (n ≤ most_rounds)
HasRounds (Explain n) = (1 ≤ n) × (n ≤ most_rounds)
HasRounds (Lazy n) = (1 ≤ n) × (n ≤ most_rounds)
HasRounds (Spoil n) = (1 ≤ n) × (n ≤ most_rounds)
HasRounds (Reach n) = (1 ≤ n) × (n ≤ most_rounds)
HasRounds r = Unit {0}
