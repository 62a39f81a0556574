-- The bounds on N servers, K messages and symbols of S bytes in each code (document 01, 'Catalogue'; document 02, item 8). One message is inside
-- them; a catalogue of one is turned away all the same, by a number of its own (document 02, item 9; `catalogue_faults` of catalogue).
use Rattle.std.specs.Prelude.{ℕ, ◌-◌, ◌^◌, Bool, ◌&&◌, leb}

-- N is 2 to 16
abbrev pub servers_fit : ℕ → Bool
servers_fit N = leb 2 N && leb N 16

-- S is 1 to 4,096
abbrev pub symbol_fits : ℕ → Bool
symbol_fits S = leb 1 S && leb S 4096

-- in the short code K is 1 to 32, and in the turning code too, whose bounds are the short code's (document 02, item 4)
abbrev pub short_messages_fit : ℕ → Bool
short_messages_fit K = leb 1 K && leb K 32

-- in the even code K is 1 or more, and a message has N^K symbols, at most 256
abbrev pub even_messages_fit : ℕ → ℕ → Bool
even_messages_fit N K = leb 1 K && leb (N ^ K) 256

-- in the round code a message has N^(K-1) blocks (02: V), as many as there are keys of the short code
abbrev pub blocks : ℕ → ℕ → ℕ
blocks N K = N ^ (K - 1)

-- and K is 1 or more, with at most 64 blocks (document 02, item 8)
abbrev pub round_messages_fit : ℕ → ℕ → Bool
round_messages_fit N K = leb 1 K && leb (blocks N K) 64

unfoldable pub short_fits : ℕ → ℕ → ℕ → Bool
short_fits N K S = servers_fit N && (symbol_fits S && short_messages_fit K)

unfoldable pub even_fits : ℕ → ℕ → ℕ → Bool
even_fits N K S = servers_fit N && (symbol_fits S && even_messages_fit N K)

unfoldable pub round_fits : ℕ → ℕ → ℕ → Bool
round_fits N K S = servers_fit N && (symbol_fits S && round_messages_fit N K)
