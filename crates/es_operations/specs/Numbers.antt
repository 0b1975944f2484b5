-- The numbers of the operations.
use Rattle.std.specs.Prelude.{ℕ}

-- properties: the receiver is the base
abbrev pub get_number : ℕ
get_number = 100

abbrev pub put_number : ℕ
put_number = 101

abbrev pub delete_number : ℕ
delete_number = 102

abbrev pub to_key_number : ℕ
to_key_number = 103

abbrev pub has_property_number : ℕ
has_property_number = 104

abbrev pub super_get_number : ℕ
super_get_number = 105

-- prototypes
abbrev pub prototype_of_number : ℕ
prototype_of_number = 106

abbrev pub heritage_prototype_number : ℕ
heritage_prototype_number = 107

-- operators on one value
abbrev pub to_text_number : ℕ
to_text_number = 110

abbrev pub to_number_number : ℕ
to_number_number = 111

abbrev pub negate_number : ℕ
negate_number = 112

abbrev pub invert_number : ℕ
invert_number = 113

-- operators on two
abbrev pub add_number : ℕ
add_number = 120

abbrev pub subtract_number : ℕ
subtract_number = 121

abbrev pub multiply_number : ℕ
multiply_number = 122

abbrev pub divide_number : ℕ
divide_number = 123

abbrev pub remainder_number : ℕ
remainder_number = 124

abbrev pub power_number : ℕ
power_number = 125

abbrev pub and_number : ℕ
and_number = 126

abbrev pub or_number : ℕ
or_number = 127

abbrev pub exclusive_or_number : ℕ
exclusive_or_number = 128

abbrev pub shift_left_number : ℕ
shift_left_number = 129

abbrev pub shift_right_number : ℕ
shift_right_number = 130

abbrev pub shift_right_unsigned_number : ℕ
shift_right_unsigned_number = 131

abbrev pub less_number : ℕ
less_number = 132

abbrev pub greater_number : ℕ
greater_number = 133

abbrev pub at_most_number : ℕ
at_most_number = 134

abbrev pub at_least_number : ℕ
at_least_number = 135

abbrev pub equal_number : ℕ
equal_number = 136

abbrev pub not_equal_number : ℕ
not_equal_number = 137

abbrev pub instance_number : ℕ
instance_number = 138

-- iterators
abbrev pub iterator_method_number : ℕ
iterator_method_number = 140

abbrev pub get_iterator_number : ℕ
get_iterator_number = 141

abbrev pub iterator_step_number : ℕ
iterator_step_number = 142

abbrev pub iterator_value_number : ℕ
iterator_value_number = 143

abbrev pub iterator_close_number : ℕ
iterator_close_number = 144

abbrev pub iterator_close_thrown_number : ℕ
iterator_close_thrown_number = 145

abbrev pub delegate_next_number : ℕ
delegate_next_number = 146

abbrev pub delegate_throw_number : ℕ
delegate_throw_number = 147

abbrev pub delegate_return_number : ℕ
delegate_return_number = 148
