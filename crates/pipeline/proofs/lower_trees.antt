mod Falls
